-- A line of a log, made word by word.
use Rattle.std.proofs.Common.{◌≡◌, ℕ, List, [], ◌∷◌, ◌++◌, sym, ap, ◌∙◌, append_assoc, append-nil, flat_map, codes, decimal}
use Rattle.std.proofs.lemmas.List.Concat.{flat_map-append}
use Rattle.query_rules.specs.declared.query.Query.{Query}
use Rattle.query_rules.specs.declared.query.Reply.{Reply}
use Rattle.query_rules.specs.declared.query.Reply.TheVariants.{Placed, Busy, Late, Job}
use Rattle.query_rules.specs.Verbs.{query_words}
use Rattle.query_rules.specs.Words.{line_of}
use Rattle.query_rules.specs.declared.query.Cause.{Cause}
use Rattle.query_rules.specs.Log.{reply_words, answer_line, cause_word, refused_at, refused_length}
use Rattle.query_text.specs.Spaced.{spaced, placed_bytes}

assoc_six : (x a b q e r : List ℕ) → ((((x ++ a) ++ b) ++ q) ++ e) ++ r ≡ x ++ (a ++ (b ++ (q ++ (e ++ r))))
assoc_six x a b q e r = simp append_assoc

abbrev spaces : List (List ℕ) → List ℕ
spaces ws = flat_map (λ (w : List ℕ). 32 ∷ w) ws

-- the words behind the place, behind spaces
behind_place : (ps : List (List ℕ)) (a b e : List ℕ) (qs rs : List (List ℕ)) → spaces (ps ++ (a ∷ b ∷ (qs ++ e ∷ rs))) ≡ spaces ps ++ ((32 ∷ a) ++ ((32 ∷ b) ++ (spaces qs ++ ((32 ∷ e) ++ spaces rs))))
behind_place ps a b e qs rs =
    flat_map-append (λ (w : List ℕ). 32 ∷ w) ps (a ∷ b ∷ (qs ++ e ∷ rs))
    ∙ ap (λ t. spaces ps ++ ((32 ∷ a) ++ ((32 ∷ b) ++ t))) (flat_map-append (λ (w : List ℕ). 32 ∷ w) qs (e ∷ rs))

made : (p : List ℕ) (ps : List (List ℕ)) (a b e : List ℕ) (qs rs : List (List ℕ)) (l0 l1 l2 l3 l4 l5 : List ℕ)
    → l0 ≡ p ++ spaces ps → l1 ≡ l0 ++ 32 ∷ a → l2 ≡ l1 ++ 32 ∷ b → l3 ≡ l2 ++ spaces qs → l4 ≡ l3 ++ 32 ∷ e → l5 ≡ l4 ++ spaces rs
    → l5 ++ 10 ∷ [] ≡ line_of ((p ∷ ps) ++ (a ∷ b ∷ (qs ++ e ∷ rs)))
made p ps a b e qs rs l0 l1 l2 l3 l4 l5 h0 h1 h2 h3 h4 h5 =
    let whole : l5 ≡ (((((p ++ spaces ps) ++ 32 ∷ a) ++ 32 ∷ b) ++ spaces qs) ++ 32 ∷ e) ++ spaces rs =
    h5 ∙ ap (λ l. l ++ spaces rs) (h4 ∙ ap (λ l. l ++ 32 ∷ e) (h3 ∙ ap (λ l. l ++ spaces qs) (h2 ∙ ap (λ l. l ++ 32 ∷ b) (h1 ∙ ap (λ l. l ++ 32 ∷ a) h0)))) in
    ap (λ l. l ++ 10 ∷ []) (
    whole
    ∙ assoc_six (p ++ spaces ps) (32 ∷ a) (32 ∷ b) (spaces qs) (32 ∷ e) (spaces rs)
    ∙ append_assoc p (spaces ps) _
    ∙ ap (λ t. p ++ t) (sym (behind_place ps a b e qs rs)))

one_word : (p w l : List ℕ) → l ≡ p ++ 32 ∷ w → l ≡ p ++ spaces (w ∷ [])
one_word p w l h = h ∙ ap (λ t. p ++ t) (sym (append-nil (32 ∷ w)))

-- the line of a reply
pub answer_made : (caller index : ℕ) (q : Query) (reply : Reply) (l0 l1 l2 l3 l4 l5 : List ℕ)
    → l0 ≡ placed_bytes reply → l1 ≡ l0 ++ 32 ∷ decimal caller → l2 ≡ l1 ++ 32 ∷ decimal index → l3 ≡ l2 ++ spaced (query_words q) → l4 ≡ l3 ++ 32 ∷ codes "=" → l5 ≡ l4 ++ spaced (reply_words reply)
    → l5 ++ 10 ∷ [] ≡ answer_line caller index q reply
unfolding answer_line
answer_made caller index q (Placed place said) l0 l1 l2 l3 l4 l5 h0 h1 h2 h3 h4 h5 =
    made (codes "map") (decimal place ∷ []) (decimal caller) (decimal index) (codes "=") (query_words q) (reply_words (Placed place said)) l0 l1 l2 l3 l4 l5 (one_word (codes "map") (decimal place) l0 h0) h1 h2 h3 h4 h5
answer_made caller index q Busy l0 l1 l2 l3 l4 l5 h0 h1 h2 h3 h4 h5 =
    made (codes "ref") [] (decimal caller) (decimal index) (codes "=") (query_words q) (reply_words Busy) l0 l1 l2 l3 l4 l5 (h0 ∙ sym (append-nil (codes "ref"))) h1 h2 h3 h4 h5
answer_made caller index q (Late now) l0 l1 l2 l3 l4 l5 h0 h1 h2 h3 h4 h5 =
    made (codes "ref") [] (decimal caller) (decimal index) (codes "=") (query_words q) (reply_words (Late now)) l0 l1 l2 l3 l4 l5 (h0 ∙ sym (append-nil (codes "ref"))) h1 h2 h3 h4 h5
answer_made caller index q (Job at result) l0 l1 l2 l3 l4 l5 h0 h1 h2 h3 h4 h5 =
    made (codes "job") (decimal at ∷ []) (decimal caller) (decimal index) (codes "=") (query_words q) (reply_words (Job at result)) l0 l1 l2 l3 l4 l5 (one_word (codes "job") (decimal at) l0 h0) h1 h2 h3 h4 h5

assoc_four : (r l d w : List ℕ) → ((r ++ l) ++ d) ++ w ≡ r ++ (l ++ (d ++ (w ++ [])))
assoc_four r l d w = simp (append_assoc, append-nil)

-- the line of a refusal
pub refusal_made : (line : ℕ) (cause : Cause) (word l0 l1 l2 l3 : List ℕ) → l0 ≡ codes "refused" → l1 ≡ l0 ++ 32 ∷ codes "line" → l2 ≡ l1 ++ 32 ∷ decimal line → l3 ≡ l2 ++ 32 ∷ word → word ≡ cause_word cause
    → l3 ++ 10 ∷ [] ≡ refused_at line cause
unfolding refused_at
refusal_made line cause word l0 l1 l2 l3 h0 h1 h2 h3 hw =
    let whole : l3 ≡ ((codes "refused" ++ 32 ∷ codes "line") ++ 32 ∷ decimal line) ++ 32 ∷ cause_word cause =
    h3 ∙ ap (λ w. l2 ++ 32 ∷ w) hw ∙ ap (λ l. l ++ 32 ∷ cause_word cause) (h2 ∙ ap (λ l. l ++ 32 ∷ decimal line) (h1 ∙ ap (λ l. l ++ 32 ∷ codes "line") h0)) in
    ap (λ l. l ++ 10 ∷ []) (whole ∙ assoc_four (codes "refused") (32 ∷ codes "line") (32 ∷ decimal line) (32 ∷ cause_word cause))

pub length_made : (l0 l1 : List ℕ) → l0 ≡ codes "refused" → l1 ≡ l0 ++ 32 ∷ codes "length" → l1 ++ 10 ∷ [] ≡ refused_length
unfolding refused_length
length_made l0 l1 h0 h1 = ap (λ l. l ++ 10 ∷ []) (h1 ∙ ap (λ l. l ++ 32 ∷ codes "length") h0)

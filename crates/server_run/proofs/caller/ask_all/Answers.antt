use Rattle.std.proofs.Common.{◌≡◌, ◌++◌, arith, rules, sym, subst, ◌∙◌, [], ◌∷◌, List, ap, get_or, length, length-append, refl}
use Rattle.std.proofs.lemmas.List.{take_rest, length-drop}
use Rattle.hall.specs.Passes.{view, cargo_of}
use Rattle.ql_base.proofs.Pieces.{all_next}
use Rattle.query_rules.specs.declared.query.Query.{Query}
use Rattle.query_rules.specs.declared.query.Reply.{Reply}
use Rattle.dist_mutex.specs.Passes.{dist_view}
use Rattle.run_laws.specs.AskedLaws.{asked_more, asked_none}
use Rattle.run_laws.specs.Callers.{IsAsked}
use Rattle.server_run.proofs.Asking.{done_next, done_all}
use Rattle.server_run.proofs.Counts.{quota_left, jobs_left}
use Rattle.server_run.proofs.caller.ask_all.Goals as goal

pub loop-rest-init : goal.loop-rest-init
loop-rest-init g c =
    let v = view c.args.pass.now in
    let d = dist_view c.args.dist_pass.now in
    let long = ap length c.requires.room.0 in (
      ([], refl, refl, asked_none v d c.args.replies.now.items c.requires.room.0),
      c.requires.pass,
      c.requires.taken,
      c.requires.quota,
      c.requires.jobs,
      omega (arith, c.requires.room.1, long),
      omega (arith, c.requires.few),
      c.requires.dist,
    )

pub loop-rest-preserved : goal.loop-rest-preserved
loop-rest-preserved g c =
    let said = c.ask-reply.ensures in
    let some = c.in-len1-up.len_at_least in
    let so = c.loop-rest.invariant in
    let rest = c.loop-rest.rest.now in
    let q : Query = get_or rest 0 _ in
    let was = c.loop-rest.replies.items in
    let v = view c.args.pass.now in
    let d = dist_view c.args.dist_pass.now in
    let p = view c.loop-rest.pass in
    let r = view c.ask-reply.new.pass in
    let x = dist_view c.loop-rest.dist_pass in
    let y = dist_view c.ask-reply.new.dist_pass in
    let len = ap length (take_rest rest 1) ∙ length-drop 1 rest in
    let more = ap length c.keep_reply.ensures.items ∙ length-append was (c.ask-reply.result ∷ []) in
    let shape = said.pass.1 ∙ sym so.1.0.1 in
    let next = asked_more (cargo_of c.args.hall.now) v p r d x y so.0.0 was c.loop-rest.index q c.ask-reply.result so.0.3 so.0.2 shape said.same said.kind c.keep_reply.ensures.numbers said.told said.placing said.dist_same said.job said.forced said.trail in (
      (
        so.0.0 ++ q ∷ [],
        done_next c.args.queries.now so.0.0 rest _ some so.0.1,
        (let one = length-append so.0.0 (q ∷ []) in omega (arith, one, so.0.2)),
        subst (λ (l : List Reply). IsAsked v d (so.0.0 ++ q ∷ []) l r y) (sym c.keep_reply.ensures.items) next,
      ),
      (said.pass, said.idle),
      all_next _ rest so.2,
      quota_left rest _ c.ask-reply.result _ _ some so.3 said.kind said.quota,
      jobs_left p.number c.loop-rest.index rest _ c.ask-reply.result x y some so.4 said.job,
      omega (arith, so.5, some, len, more, c.keep_reply.ensures.room),
      omega (arith, so.6, some, len),
      said.dist,
    )

pub returns-clause-told : goal.returns-clause-told
returns-clause-told g c =
    let so = c.loop-rest.invariant in
    let all : so.0.0 ≡ c.args.queries.now = done_all c.args.queries.now so.0.0 c.loop-rest.rest.now c.in_default.len_below so.0.1 in
    subst (λ (l : List Query). IsAsked (view c.args.pass.now) (dist_view c.args.dist_pass.now) l c.loop-rest.replies.items (view c.loop-rest.pass) (dist_view c.loop-rest.dist_pass)) all so.0.3

pub ask-reply-requires-clause-number : goal.ask-reply-requires-clause-number
ask-reply-requires-clause-number g c =
    let so = c.loop-rest.invariant.0.3 in
    let same : (dist_view c.loop-rest.dist_pass).number ≡ (view c.loop-rest.pass).number = so.kept_too.number ∙ c.requires.number ∙ sym so.kept.0.number in
    search rules

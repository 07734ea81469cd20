-- A state word as a number: bit 0 MAY_DEFER, bit 1 UPGRADE, bit 2 BEGUN, bit 3 HELD, bits 4 to 31 zero, and from bit 32 on the inline count in two's complement.
use Rattle.std.specs.Prelude.{◌≡◌, ◌≢◌, ℕ, ◌+◌, ◌-◌, ◌*◌, ◌/◌, ◌%◌, ◌<◌, ◌≤◌, ◌&&◌, ◌==◌, if◌then◌else◌, nat_lt, Bool, true, false}
use Rattle.std.proofs.Common.{arith, ◌∙◌, ap}
use Rattle.state_word.specs.declared.TheConstants.{MAY_DEFER, UPGRADE, BEGUN, HELD, FIRST_IDLE, IDLE_FIELDS, ONE, COUNTS, FIRST_NEGATIVE, MOST_COUNTED, WORDS}

-- the lowest bit, which is all that lies below UPGRADE
abbrev pub may_defer_of : ℕ → ℕ
may_defer_of w = w % UPGRADE

abbrev pub upgrade_of : ℕ → ℕ
upgrade_of w = w / UPGRADE % 2

abbrev pub begun_of : ℕ → ℕ
begun_of w = w / BEGUN % 2

abbrev pub held_of : ℕ → ℕ
held_of w = w / HELD % 2

-- the bits that stay zero
abbrev pub idle_of : ℕ → ℕ
idle_of w = w / FIRST_IDLE % IDLE_FIELDS

-- the count's 32 bits: a count from -1 down to -2^31 stands as 2^32 less so much
abbrev pub units_of : ℕ → ℕ
units_of w = w / ONE

-- the count is at least 2, and no writer is announced
abbrev pub is_deep : ℕ → Bool
is_deep w = nat_lt 1 (units_of w) && nat_lt (units_of w) FIRST_NEGATIVE && (begun_of w == 0)

abbrev pub enter_of : ℕ → ℕ
enter_of w = (w + ONE) % WORDS + (if is_deep w then 1 - may_defer_of w else 0)

abbrev pub lower_of : ℕ → ℕ
lower_of w = (w + (WORDS - ONE)) % WORDS

abbrev pub announce_of : ℕ → ℕ
announce_of w = w + BEGUN - may_defer_of w

abbrev pub hold_of : ℕ → ℕ
hold_of w = w + (HELD - BEGUN) - UPGRADE * upgrade_of w - HELD * held_of w

abbrev pub retract_of : ℕ → ℕ
retract_of w = w - (BEGUN - MAY_DEFER)

abbrev pub release_of : ℕ → ℕ
release_of w = w - HELD

abbrev pub up_of : ℕ → ℕ
up_of w = w + UPGRADE

abbrev pub down_of : ℕ → ℕ
down_of w = w - UPGRADE

abbrev pub to_shared_of : ℕ → ℕ
to_shared_of w = (w - UPGRADE * upgrade_of w - HELD * held_of w + ONE) % WORDS

abbrev pub to_upgrade_of : ℕ → ℕ
to_upgrade_of w = w - HELD + UPGRADE * (1 - upgrade_of w)

abbrev pub add_of : ℕ → ℕ → ℕ
add_of w n = (w + n * ONE) % WORDS

-- the fields of a word; together they are the word
pub record Fields : Type 0 where
  pub may_defer : ℕ
  pub upgrade : ℕ
  pub begun : ℕ
  pub held : ℕ
  pub idle : ℕ
  pub units : ℕ

abbrev pub fields : ℕ → ℕ → ℕ → ℕ → ℕ → ℕ → Fields
fields m u b h i n = record { may_defer = m; upgrade = u; begun = b; held = h; idle = i; units = n }

abbrev pub fields_of : ℕ → Fields
fields_of w = fields (may_defer_of w) (upgrade_of w) (begun_of w) (held_of w) (idle_of w) (units_of w)

same_fields : {m u b h i n m' u' b' h' i' n' : ℕ} → m ≡ m' → u ≡ u' → b ≡ b' → h ≡ h' → i ≡ i' → n ≡ n' → fields m u b h i n ≡ fields m' u' b' h' i' n'
same_fields p q r s t v k = fields (p k) (q k) (r k) (s k) (t k) (v k)

-- a word is its fields
pub fields-word : (w : ℕ) → w ≡ may_defer_of w + UPGRADE * upgrade_of w + BEGUN * begun_of w + HELD * held_of w + FIRST_IDLE * idle_of w + ONE * units_of w
fields-word w = omega arith

module _ (w : ℕ) (fits : w < WORDS) where
  plus_one : (b : ℕ) → b + may_defer_of w ≤ 1 → units_of w ≢ MOST_COUNTED → fields_of ((w + ONE) % WORDS + b) ≡ fields (may_defer_of w + b) (upgrade_of w) (begun_of w) (held_of w) (idle_of w) ((units_of w + 1) % COUNTS)
  plus_one b small room = same_fields (omega arith) (omega arith) (omega arith) (omega arith) (omega arith) (omega arith)

  bump : (d : Bool) → (if d then 1 - may_defer_of w else 0) + may_defer_of w ≤ 1
  bump d = elim d as (λ z. (if z then 1 - may_defer_of w else 0) + may_defer_of w ≤ 1) [ true ↦ omega arith | false ↦ omega arith ]

  turned_on : (d : Bool) → may_defer_of w + (if d then 1 - may_defer_of w else 0) ≡ (if d then 1 else may_defer_of w)
  turned_on d = elim d as (λ z. may_defer_of w + (if z then 1 - may_defer_of w else 0) ≡ (if z then 1 else may_defer_of w)) [ true ↦ omega arith | false ↦ omega arith ]

  -- entering counts one more, and where the count was at least 2 and no writer is announced it lets readers defer
  pub enter-fields : units_of w ≢ MOST_COUNTED → fields_of (enter_of w) ≡ fields (if is_deep w then 1 else may_defer_of w) (upgrade_of w) (begun_of w) (held_of w) (idle_of w) ((units_of w + 1) % COUNTS)
  enter-fields room = plus_one (if is_deep w then 1 - may_defer_of w else 0) (bump (is_deep w)) room ∙ ap (λ (m : ℕ). fields m (upgrade_of w) (begun_of w) (held_of w) (idle_of w) ((units_of w + 1) % COUNTS)) (turned_on (is_deep w))

  -- leaving counts one fewer
  pub lower-fields : fields_of (lower_of w) ≡ fields (may_defer_of w) (upgrade_of w) (begun_of w) (held_of w) (idle_of w) ((units_of w + (COUNTS - 1)) % COUNTS)
  lower-fields = same_fields (omega arith) (omega arith) (omega arith) (omega arith) (omega arith) (omega arith)

  -- announcing sets BEGUN and clears MAY_DEFER
  pub announce-fields : begun_of w ≡ 0 → fields_of (announce_of w) ≡ fields 0 (upgrade_of w) 1 (held_of w) (idle_of w) (units_of w)
  announce-fields clear = same_fields (omega arith) (omega arith) (omega arith) (omega arith) (omega arith) (omega arith)

  -- holding sets HELD, and clears BEGUN and UPGRADE
  pub hold-fields : begun_of w ≡ 1 → units_of w ≡ 0 → fields_of (hold_of w) ≡ fields (may_defer_of w) 0 0 1 (idle_of w) 0
  hold-fields on none = same_fields (omega arith) (omega arith) (omega arith) (omega arith) (omega arith) (omega arith)

  -- retracting clears BEGUN and sets MAY_DEFER
  pub retract-fields : begun_of w ≡ 1 → may_defer_of w ≡ 0 → fields_of (retract_of w) ≡ fields 1 (upgrade_of w) 0 (held_of w) (idle_of w) (units_of w)
  retract-fields on off = same_fields (omega arith) (omega arith) (omega arith) (omega arith) (omega arith) (omega arith)

  -- releasing clears HELD
  pub release-fields : held_of w ≡ 1 → fields_of (release_of w) ≡ fields (may_defer_of w) (upgrade_of w) (begun_of w) 0 (idle_of w) (units_of w)
  release-fields on = same_fields (omega arith) (omega arith) (omega arith) (omega arith) (omega arith) (omega arith)

  -- taking upgrade mode sets UPGRADE
  pub up-fields : upgrade_of w ≡ 0 → fields_of (up_of w) ≡ fields (may_defer_of w) 1 (begun_of w) (held_of w) (idle_of w) (units_of w)
  up-fields off = same_fields (omega arith) (omega arith) (omega arith) (omega arith) (omega arith) (omega arith)

  -- giving it up clears UPGRADE
  pub down-fields : upgrade_of w ≡ 1 → fields_of (down_of w) ≡ fields (may_defer_of w) 0 (begun_of w) (held_of w) (idle_of w) (units_of w)
  down-fields on = same_fields (omega arith) (omega arith) (omega arith) (omega arith) (omega arith) (omega arith)

  -- lowering to shared clears UPGRADE and HELD, and counts one more
  pub to_shared-fields : fields_of (to_shared_of w) ≡ fields (may_defer_of w) 0 (begun_of w) 0 (idle_of w) ((units_of w + 1) % COUNTS)
  to_shared-fields = same_fields (omega arith) (omega arith) (omega arith) (omega arith) (omega arith) (omega arith)

  -- lowering to upgrade clears HELD and sets UPGRADE
  pub to_upgrade-fields : held_of w ≡ 1 → fields_of (to_upgrade_of w) ≡ fields (may_defer_of w) 1 (begun_of w) 0 (idle_of w) (units_of w)
  to_upgrade-fields on = same_fields (omega arith) (omega arith) (omega arith) (omega arith) (omega arith) (omega arith)

  -- adding counts so many more
  pub add-fields : (n : ℕ) → fields_of (add_of w n) ≡ fields (may_defer_of w) (upgrade_of w) (begun_of w) (held_of w) (idle_of w) ((units_of w + n) % COUNTS)
  add-fields n = same_fields (omega arith) (omega arith) (omega arith) (omega arith) (omega arith) (omega arith)

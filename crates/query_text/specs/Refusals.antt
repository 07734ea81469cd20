-- What is written of a refused input.
use Rattle.std.specs.Prelude.{ℕ, List}
use Rattle.query_rules.specs.Log.{refused_at, refused_length}
use Rattle.query_text.specs.declared.refusal.Refusal.{Refusal}
use Rattle.query_text.specs.declared.refusal.Refusal.TheVariants.{Line, Length}

abbrev pub refusal_text : Refusal → List ℕ
refusal_text (Line line cause) = refused_at line cause
refusal_text Length = refused_length

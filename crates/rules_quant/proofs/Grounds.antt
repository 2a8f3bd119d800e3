-- A ground term is closed.
use Rattle.std.proofs.Common.{◌≡◌, [], ap₂, sym, ◌∙◌, IsTrue, rules}
use Rattle.std.proofs.lemmas.Bool.{and_parts}
use Rattle.std.specs.Prelude.{◌&&◌}
use Rattle.fol_core.specs.declared.sent.Term.{Term}
use Rattle.fol_core.specs.declared.sent.Sent.{the_lemmas}
use Rattle.fol_core.specs.declared.sent.Sent.TheVariants.{Eq}
use Rattle.fol_core.specs.Closed.{closed, closed_term}
use Rattle.fol_core.specs.Statements.{ground}
use Rattle.fol_core.proofs.Stating.{stated_eq}
use Rattle.fol_core.proofs.Closing.{statement_closed}

closed_eq : (a b : Term) → closed (Eq a b) ≡ (closed_term a && closed_term b)
closed_eq a b = search (rules, the_lemmas)

pub ground_closed : (u : Term) → IsTrue (ground u) → IsTrue (closed_term u)
ground_closed u h = (and_parts (closed_term u) (closed_term u) (sym (closed_eq u u) ∙ statement_closed (Eq u u) (stated_eq u u [] ∙ ap₂ ◌&&◌ h h))).0

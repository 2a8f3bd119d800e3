-- How the code finds instances in a row: a private description of it.
use Rattle.std.specs.Prelude.{◌≡◌, ℕ, zero, suc, true, IsTrue, List, Option, Some, None, if◌then◌else◌}
use Rattle.std.specs.Str.{bytes_eq}
use Rattle.fol_core.specs.Word.{Word}
use Rattle.fol_core.specs.declared.sent.Sent.{Sent, out-Sent}
use Rattle.fol_core.specs.declared.sent.Sent.TheOpen as f
use Rattle.fol_core.specs.declared.sent.Sent.TheVariants as s
use Rattle.fol_core.specs.declared.sent.Term.{Term}
use Rattle.fol_core.specs.Statements.{ground}
use Rattle.fol_core.specs.Naming.{term_where}
use Rattle.nested_proofs.specs.Rules.{AllInstance, ExInstance}
use Rattle.rules_quant.specs.declared.rows.Quantifier.{Quantifier}
use Rattle.rules_quant.specs.declared.rows.Quantifier.TheVariants.{Every, Exists}
use Rattle.rules_quant.specs.Naming.{Entry, naming, put}

-- The sentence with this quantifier before it.
abbrev pub quantified : Quantifier → Word → Sent → Sent
quantified Every x p = s.All x p
quantified Exists x p = s.Ex x p

-- The second sentence is an instance of the first, which has this quantifier.
abbrev pub Instance : Quantifier → Sent → Sent → Type 0
Instance Every = AllInstance
Instance Exists = ExInstance

-- So many quantifiers before q have closed terms for which, beside the entries, t is the rest with the terms put in.
abbrev pub Rows : Quantifier → ℕ → Sent → List Entry → Sent → Type 0
Rows k zero q es t = t ≡ put q es
Rows k (suc n) q es t = (x : Word) × (p : Sent) × (m : Term) × IsTrue (ground m) × (q ≡ quantified k x p) × Rows k n p (naming x m es) t

-- The variable and the matrix of a sentence with this quantifier.
pub record Split : Type 0 where
  pub variable : Word
  pub matrix : Sent

-- The variable and the matrix as a value that is there.
abbrev pub both : Word → Sent → Option Split
both x p = Some (record { variable = x; matrix = p })

-- The variable and the matrix, where the sentence has this quantifier.
abbrev pub split : Quantifier → Sent → Option Split
split Every q = elim (out-Sent q) [ f.All x p ↦ both x p | _ ↦ None ]
split Exists q = elim (out-Sent q) [ f.Ex x p ↦ both x p | _ ↦ None ]

-- What a further quantifier leaves to be read.
abbrev pub read_under : Word → (Sent → Option Term) → Option Split → Option Term
read_under x later None = None
read_under x later (Some y) = if bytes_eq y.variable x then None else later y.matrix

-- The term that t has at the first place where x is free in q past so many quantifiers.
abbrev pub read_past : Quantifier → Word → Sent → ℕ → Sent → Option Term
read_past k x t zero q = term_where x q true t
read_past k x t (suc n) q = read_under x (read_past k x t n) (split k q)

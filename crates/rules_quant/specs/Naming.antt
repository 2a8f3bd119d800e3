-- How the code puts several terms into a sentence at once: a private description of it.
use Rattle.std.specs.Prelude.{List, [], ◌∷◌, map, Option, Some, None, IfSome, IsTrue, if◌then◌else◌}
use Rattle.std.specs.Str.{bytes_eq}
use Rattle.fol_core.specs.Word.{Word}
use Rattle.fol_core.specs.declared.sent.Term.{Term}
use Rattle.fol_core.specs.declared.sent.Term.TheOpen.{Term-F}
use Rattle.fol_core.specs.declared.sent.Term.TheOpen as t
use Rattle.fol_core.specs.declared.sent.Term.TheVariants.{Var, Name, App}
use Rattle.fol_core.specs.declared.sent.Term.TheFolds.{fold-Term}
use Rattle.fol_core.specs.Statements.{ground}
use Rattle.fol_core.specs.declared.sent.Sent.{Sent}
use Rattle.fol_core.specs.declared.sent.Sent.TheOpen.{Sent-F}
use Rattle.fol_core.specs.declared.sent.Sent.TheOpen as f
use Rattle.fol_core.specs.declared.sent.Sent.TheVariants as s
use Rattle.fol_core.specs.declared.sent.Sent.TheFolds.{fold-Sent}
use Rattle.rules_quant.specs.declared.names.Names.{Names, fold-Names}
use Rattle.rules_quant.specs.declared.names.Names.TheOpen.{Names-F}
use Rattle.rules_quant.specs.declared.names.Names.TheOpen as g

-- A variable with the term that stands for it; with none it stands for itself.
pub record Entry : Type 0 where
  pub variable : Word
  pub term : Option Term

-- The term that stands for the variable, by the first entry for it.
abbrev pub term_for : List Entry → Word → Option Term
term_for [] y = None
term_for (e ∷ es) y = if bytes_eq e.variable y then e.term else term_for es y

-- The term, and where there is none the variable itself.
abbrev pub or_itself : Option Term → Word → Term
or_itself None y = Var y
or_itself (Some r) y = r

-- Each term that stands for a variable is closed.
abbrev pub HaveGround : List Entry → Type 0
HaveGround es = (y : Word) → IfSome (term_for es y) (λ r. IsTrue (ground r))

-- One form of term, with the terms in the places of variables, also in its arguments.
abbrev pub put_term_step : List Entry → Term-F Term → Term
put_term_step es (t.Var y) = or_itself (term_for es y) y
put_term_step es (t.Name m) = Name m
put_term_step es (t.App g us) = App g us

-- The terms in the places of variables in a term.
abbrev pub put_term : List Entry → Term → Term
put_term es = fold-Term Term (put_term_step es)

-- The variable stands for itself from here on.
abbrev pub hiding : Word → List Entry → List Entry
hiding y es = record { variable = y; term = None } ∷ es

-- The term stands for the variable from here on.
abbrev pub naming : Word → Term → List Entry → List Entry
naming y r es = record { variable = y; term = Some r } ∷ es

-- One form of sentence, with the terms put into its terms and parts; a quantifier's variable stands for itself below it.
abbrev pub put_step : Sent-F (List Entry → Sent) → List Entry → Sent
put_step (f.Atom p ts) es = s.Atom p (map (put_term es) ts)
put_step (f.Eq a b) es = s.Eq (put_term es a) (put_term es b)
put_step f.Bottom es = s.Bottom
put_step (f.Not h) es = s.Not (h es)
put_step (f.And hs) es = s.And (map (λ h. h es) hs)
put_step (f.Or hs) es = s.Or (map (λ h. h es) hs)
put_step (f.If h k) es = s.If (h es) (k es)
put_step (f.Iff h k) es = s.Iff (h es) (k es)
put_step (f.All y h) es = s.All y (h (hiding y es))
put_step (f.Ex y h) es = s.Ex y (h (hiding y es))

-- The sentence with the terms in the places of its free variables.
abbrev pub put : Sent → List Entry → Sent
put = fold-Sent (List Entry → Sent) put_step

-- One entry, before those further out.
abbrev pub entries_step : Names-F (List Entry) → List Entry
entries_step g.None = []
entries_step (g.Known x r rest) = naming x.now r.now rest.now
entries_step (g.Named x n rest) = naming x.now (Name n.now) rest.now
entries_step (g.Hidden x rest) = hiding x.now rest.now

-- The entries, the innermost first.
abbrev pub entries : Names → List Entry
entries = fold-Names (List Entry) entries_step

-- Well-formed terms and sentences: each word is of its kind, and each chain has two parts or more.
use Rattle.std.specs.Prelude.{Bool, true, ◌&&◌, nat_le, length}
use Rattle.std.specs.List.{list_all}
use Rattle.fol_core.specs.Word.{is_predicate, is_variable, is_name}
use Rattle.fol_core.specs.Subst.{itself}
use Rattle.fol_core.specs.Blocks.{fits}
use Rattle.fol_core.specs.declared.sent.Term.{Term}
use Rattle.fol_core.specs.declared.sent.Term.TheOpen.{Term-F}
use Rattle.fol_core.specs.declared.sent.Term.TheOpen as t
use Rattle.fol_core.specs.declared.sent.Term.TheFolds.{fold-Term}
use Rattle.fol_core.specs.declared.sent.Sent.{Sent}
use Rattle.fol_core.specs.declared.sent.Sent.TheOpen.{Sent-F}
use Rattle.fol_core.specs.declared.sent.Sent.TheOpen as f
use Rattle.fol_core.specs.declared.sent.Sent.TheFolds.{fold-Sent}

-- One form of term: its word is a variable, a name, or a function symbol, which is spelled as a name; and a function has
-- one argument or more, each of which is well formed.
abbrev pub formed_term_step : Term-F Bool → Bool
formed_term_step (t.Var x) = is_variable x
formed_term_step (t.Name n) = is_name n
formed_term_step (t.App g bs) = is_name g && nat_le 1 (length bs) && list_all itself bs

-- A term is well formed where each word in it is of its kind, and each function has one argument or more.
abbrev pub is_formed_term : Term → Bool
is_formed_term = fold-Term Bool formed_term_step

-- One form of sentence: its predicate, terms and variable are words of their kinds, its predicate fits the number of its
-- terms, a chain has two parts or more, and its parts are well formed.
abbrev pub formed_step : Sent-F Bool → Bool
formed_step (f.Atom p ts) = is_predicate p && fits p (length ts) && list_all is_formed_term ts
formed_step (f.Eq a b) = is_formed_term a && is_formed_term b
formed_step f.Bottom = true
formed_step (f.Not b) = b
formed_step (f.And bs) = nat_le 2 (length bs) && list_all itself bs
formed_step (f.Or bs) = nat_le 2 (length bs) && list_all itself bs
formed_step (f.If b c) = b && c
formed_step (f.Iff b c) = b && c
formed_step (f.All x b) = is_variable x && b
formed_step (f.Ex x b) = is_variable x && b

-- A sentence is well formed where each word in it is of its kind, each predicate of the blocks language has its number of
-- places, and each conjunction and each disjunction has two parts or more.
abbrev pub formed : Sent → Bool
formed = fold-Sent Bool formed_step

-- The document of a text that is short and UTF-8, and of one that is not.
use Rattle.std.proofs.Common.{◌≡◌, ℕ, ◌≤◌, ◌&&◌, nat_le, Bool, true, false, List, length, Option, None, cond, refl, arith}
use Rattle.std.specs.Str.{IsUtf8, is_utf8}
use Rattle.std.proofs.lemmas.Str.{IsUtf8-from_is_utf8, is_utf8-from_IsUtf8}
use Rattle.std.proofs.lemmas.Bool.Decides.{nat_tests}
use Rattle.toml.specs.Data.{Members}
use Rattle.toml.specs.Parse.{parse_document}
use Rattle.exercise_fields.specs.Document.{document_of}

refuted : (short utf8 : Bool) (o : Option Members) → (utf8 ≡ true → ⊥) → cond (short && utf8) o None ≡ None
refuted true true o h = absurd (h refl)
refuted true false o h = refl
refuted false utf8 o h = refl

pub no_document : (text : List ℕ) → (IsUtf8 text → ⊥) → document_of text ≡ None
no_document text h = refuted (nat_le (length text) 65_536) (is_utf8 text) (parse_document text) (λ e. h (IsUtf8-from_is_utf8 text e))

held : (short utf8 : Bool) (o : Option Members) → short ≡ true → utf8 ≡ true → cond (short && utf8) o None ≡ o
held true true o s u = refl
held true false o s u = absurd (cc)
held false utf8 o s u = absurd (cc)

is_short : (n : ℕ) → n ≤ 65_536 → nat_le n 65_536 ≡ true
is_short n h = grind (arith, nat_tests)

pub document : (text : List ℕ) → length text ≤ 65_536 → IsUtf8 text → document_of text ≡ parse_document text
document text h u = held (nat_le (length text) 65_536) (is_utf8 text) (parse_document text) (is_short (length text) h) (is_utf8-from_IsUtf8 text u)

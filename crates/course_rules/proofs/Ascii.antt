-- A zone's text is of ASCII, so it is UTF-8.
use Rattle.std.proofs.Common.{◌≡◌, ℕ, ◌<◌, Bool, true, false, List, arith, refl}
use Rattle.std.specs.Prelude.{◌&&◌}
use Rattle.std.specs.List.{list_all, All}
use Rattle.std.specs.Char.{is_ascii}
use Rattle.std.specs.Str.{IsUtf8}
use Rattle.std.proofs.lemmas.Str.{IsUtf8-from_ascii}
use Rattle.std.proofs.lemmas.Str.Ascii.{IsAscii-from_all}
use Rattle.std.proofs.lemmas.List.Sums.{AllPass-from_list_all}
use Rattle.std.proofs.lemmas.List.Elements.{All-weaker}
use Rattle.std.proofs.lemmas.Bool.Decides.{nat_tests}
use Rattle.course_rules.specs.ZoneForm.{is_zone, is_ascii_text, has_parts}

both : (a b : Bool) → (a && b) ≡ true → (a ≡ true) × (b ≡ true)
both true b e = (refl, e)
both false b e = absurd (cc)

below : (b : ℕ) → is_ascii b ≡ true → b < 128
below b e = grind (arith, nat_tests)

each_ascii : (text : List ℕ) → list_all is_ascii text ≡ true → All (λ b. b < 128) text
each_ascii text h = All-weaker (λ b. is_ascii b ≡ true) (λ b. b < 128) (λ b e. below b e) text (AllPass-from_list_all is_ascii text h)

pub zone_is_utf8 : (text : List ℕ) → is_zone text ≡ true → IsUtf8 text
zone_is_utf8 text h = IsUtf8-from_ascii text (IsAscii-from_all text (each_ascii text (both (is_ascii_text text) (has_parts text) h).0))

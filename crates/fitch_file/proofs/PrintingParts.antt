-- The printed parts of a line, read back: the bars, the name of the rule, and the cites.
use Rattle.std.proofs.Common.{◌≡◌, ℕ, zero, suc, ◌+◌, ◌<◌, ◌≤◌, eqb, Bool, true, false, not, List, [], ◌∷◌, ◌++◌, length, map, refl, sym, ap, ap₂, subst, ◌∙◌, append_assoc, arith, inl, codes}
use Rattle.std.specs.Prelude.{◌&&◌, ◌||◌, nat_le}
use Rattle.std.specs.Fmt.{decimal}
use Rattle.std.specs.List.{list_all, slice_split, AllByRecursion}
use Rattle.std.proofs.lemmas.Bool.{and_parts}
use Rattle.std.proofs.lemmas.Bool.Decides.{nat_tests}
use Rattle.std.proofs.lemmas.List.{append-nil}
use Rattle.std.proofs.lemmas.List.Folds.{list_all-append}
use Rattle.std.proofs.lemmas.Fmt.{decimal_nonempty}
use Rattle.texts.specs.Blanks.{is_blank}
use Rattle.texts.specs.Cuts.{Lacks, IsCut}
use Rattle.texts.specs.Numbers.{IsCount}
use Rattle.texts.proofs.Splitting.{split_cut, split_lacks}
use Rattle.fol_core.specs.Word.{is_digit}
use Rattle.fol_text.specs.Printed.{separated}
use Rattle.deriv_laws.specs.declared.line.Cite.{Cite}
use Rattle.nested_proofs.specs.Limits.{IsCiteForm}
use Rattle.fitch_file.specs.declared.rule_names.Sign.{Sign}
use Rattle.fitch_file.specs.declared.rule_names.Sign.TheVariants as sign
use Rattle.fitch_file.specs.declared.rule_names.RuleWord.{RuleWord}
use Rattle.fitch_file.specs.declared.rule_names.RuleWord.TheVariants as word
use Rattle.fitch_file.specs.declared.rule_names.RuleName.{RuleName}
use Rattle.fitch_file.specs.declared.rule_names.RuleName.TheVariants.{OneWord, Consequence, Introduction, Elimination}
use Rattle.fitch_file.specs.RuleNames.{IsName, word_text, typed}
use Rattle.fitch_file.specs.Numbering.{bars, after_bars}
use Rattle.fitch_file.specs.Beside.{Beside}
use Rattle.fitch_file.specs.Cites.{IsCite, line, subproof, IsPart, line_cite}
use Rattle.fitch_file.specs.PrintedProof.{name_text, bars_text, range_end, cite_text}
use Rattle.fitch_file.proofs.Digits.{decimal_digits, count_lacks_hyphen}
use Rattle.fitch_file.proofs.PrintingInk.{is_ink, begins_ink, ends_well, begins_where, ends_where, ends_append, lacks_where, lacks_append, trimmed_ink}

-- bars

-- The text begins with no bar and no blank.
abbrev pub begins_body : List ℕ → Bool
begins_body [] = true
begins_body (b ∷ bs) = is_ink b && not (eqb b 124)

body_no_bar : (b : ℕ) → (is_ink b && not (eqb b 124)) ≡ true → eqb b 124 ≡ false
body_no_bar b h = grind (arith, nat_tests)

body_no_blank : (b : ℕ) → (is_ink b && not (eqb b 124)) ≡ true → is_blank b ≡ false
body_no_blank b h = grind (arith, nat_tests)

no_bars : (t : List ℕ) → begins_body t ≡ true → bars t ≡ 0
no_bars [] h = refl
no_bars (b ∷ bs) h =
    let e : eqb b 124 ≡ false = body_no_bar b h in
    let i : is_blank b ≡ false = body_no_blank b h in
    rw (e, i) refl

none_after : (t : List ℕ) → begins_body t ≡ true → after_bars t ≡ t
none_after [] h = refl
none_after (b ∷ bs) h =
    let e : eqb b 124 ≡ false = body_no_bar b h in
    let i : is_blank b ≡ false = body_no_blank b h in
    rw (e, i) refl

one_more : (n m : ℕ) → n ≡ m → 1 + n ≡ suc m
one_more n m h = omega arith

pub bars_counted : (d : ℕ) (t : List ℕ) → begins_body t ≡ true → bars (bars_text d ++ t) ≡ d
bars_counted zero t h = no_bars t h
bars_counted (suc d) t h = one_more (bars (bars_text d ++ t)) d (bars_counted d t h)

pub bars_passed : (d : ℕ) (t : List ℕ) → begins_body t ≡ true → after_bars (bars_text d ++ t) ≡ t
bars_passed zero t h = none_after t h
bars_passed (suc d) t h = bars_passed d t h

pub bars_lack_feed : (d : ℕ) → Lacks 10 (bars_text d)
bars_lack_feed zero = refl
bars_lack_feed (suc d) = bars_lack_feed d

-- names

abbrev in_name : ℕ → Bool
in_name b = nat_le 32 b && not (eqb b 58)

name_no_colon : (b : ℕ) → in_name b ≡ true → eqb b 58 ≡ false
name_no_colon b h = grind (arith, nat_tests)

name_no_feed : (b : ℕ) → in_name b ≡ true → eqb b 10 ≡ false
name_no_feed b h = grind (arith, nat_tests)

abbrev is_name_like : List ℕ → Bool
is_name_like t = begins_ink t && list_all in_name t && ends_well t

one_word : (w : RuleWord) → is_name_like (word_text w) ≡ true
one_word word.Premise = refl
one_word word.Assume = refl
one_word word.Box = refl
one_word word.Reit = refl
one_word word.Taut = refl
one_word word.Fo = refl
one_word word.Ana = refl

consequence : (w : RuleWord) → is_name_like (word_text w ++ codes " Con") ≡ true
consequence word.Premise = refl
consequence word.Assume = refl
consequence word.Box = refl
consequence word.Reit = refl
consequence word.Taut = refl
consequence word.Fo = refl
consequence word.Ana = refl

introduction : (s : Sign) → is_name_like (typed s ∷ codes " Intro") ≡ true
introduction sign.Not = refl
introduction sign.And = refl
introduction sign.Or = refl
introduction sign.If = refl
introduction sign.Iff = refl
introduction sign.All = refl
introduction sign.Exists = refl
introduction sign.Falsum = refl
introduction sign.Equals = refl

elimination : (s : Sign) → is_name_like (typed s ∷ codes " Elim") ≡ true
elimination sign.Not = refl
elimination sign.And = refl
elimination sign.Or = refl
elimination sign.If = refl
elimination sign.Iff = refl
elimination sign.All = refl
elimination sign.Exists = refl
elimination sign.Falsum = refl
elimination sign.Equals = refl

name_like : (n : RuleName) → is_name_like (name_text n) ≡ true
name_like (OneWord w) = one_word w
name_like (Consequence w) = consequence w
name_like (Introduction s) = introduction s
name_like (Elimination s) = elimination s

is_named : (n : RuleName) → IsName n (name_text n)
is_named (OneWord w) = refl
is_named (Consequence w) = record { tail = codes " Con"; rest = codes "Con"; begins = refl; parted = record { blank = 32; is = refl; begins = refl }; ends = refl }
is_named (Introduction s) = inl (record { tail = codes " Intro"; begins = refl; ends = refl })
is_named (Elimination s) = inl (record { tail = codes " Elim"; begins = refl; ends = refl })

-- What is printed of a rule's name is the name, without a colon and a line feed, and with visible ends.
pub record IsPrintedName (n : RuleName) : Type 0 where
  pub named : IsName n (name_text n)
  pub begins : begins_ink (name_text n) ≡ true
  pub ends : ends_well (name_text n) ≡ true
  pub no_colon : Lacks 58 (name_text n)
  pub no_feed : Lacks 10 (name_text n)

pub printed_name : (n : RuleName) → IsPrintedName n
printed_name n =
    let t = name_text n in
    let d : ((begins_ink t && list_all in_name t) ≡ true) × (ends_well t ≡ true) = and_parts (begins_ink t && list_all in_name t) (ends_well t) (name_like n) in
    let e : (begins_ink t ≡ true) × (list_all in_name t ≡ true) = and_parts (begins_ink t) (list_all in_name t) d.0 in
    record {
      named = is_named n;
      begins = e.0;
      ends = d.1;
      no_colon = lacks_where in_name 58 name_no_colon t e.1;
      no_feed = lacks_where in_name 10 name_no_feed t e.1;
    }

-- cites

abbrev in_cite : ℕ → Bool
in_cite b = is_digit b || eqb b 45

digit_in_cite : (b : ℕ) → is_digit b ≡ true → in_cite b ≡ true
digit_in_cite b h = rw h refl

cite_visible : (b : ℕ) → in_cite b ≡ true → is_ink b ≡ true
cite_visible b h = grind (arith, nat_tests)

cite_no_comma : (b : ℕ) → in_cite b ≡ true → eqb b 44 ≡ false
cite_no_comma b h = grind (arith, nat_tests)

cite_no_feed : (b : ℕ) → in_cite b ≡ true → eqb b 10 ≡ false
cite_no_feed b h = grind (arith, nat_tests)

digits_in_cite : (ds : List ℕ) → list_all is_digit ds ≡ true → list_all in_cite ds ≡ true
digits_in_cite [] h = refl
digits_in_cite (d ∷ ds) h = let p = and_parts (is_digit d) (list_all is_digit ds) h in ap₂ ◌&&◌ (digit_in_cite d p.0) (digits_in_cite ds p.1)

number_in_cite : (n : ℕ) → n ≤ 9999 → list_all in_cite (decimal n) ≡ true
number_in_cite n h = digits_in_cite (decimal n) (decimal_digits n (omega arith))

range_end_in_cite : (sub : Bool) (n : ℕ) → n ≤ 9999 → list_all in_cite (range_end sub n) ≡ true
range_end_in_cite false n h = refl
range_end_in_cite true n h = number_in_cite n h

longer : (xs ys : List ℕ) → 0 < length xs → 0 < length (xs ++ ys)
longer [] ys h = absurd (omega (arith, h))
longer (x ∷ xs) ys h = omega arith

low_first : (c : Cite) → IsCiteForm c → c.first ≤ 9999
low_first c h = omega (arith, h.in_order, h.four_digits)

cite_bytes : (c : Cite) → IsCiteForm c → list_all in_cite (cite_text c) ≡ true
cite_bytes c h = list_all-append in_cite (decimal c.first) (range_end c.sub c.last) ∙ ap₂ ◌&&◌ (number_in_cite c.first (low_first c h)) (range_end_in_cite c.sub c.last h.four_digits)

cite_some : (c : Cite) → IsCiteForm c → 0 < length (cite_text c)
cite_some c h = longer (decimal c.first) (range_end c.sub c.last) (decimal_nonempty c.first (omega (arith, low_first c h)))

cite_begins : (c : Cite) → IsCiteForm c → begins_ink (cite_text c) ≡ true
cite_begins c h = begins_where in_cite cite_visible (cite_text c) (cite_some c h) (cite_bytes c h)

cite_ends : (c : Cite) → IsCiteForm c → ends_well (cite_text c) ≡ true
cite_ends c h = ends_where in_cite cite_visible (cite_text c) (cite_some c h) (cite_bytes c h)

number_counts : (n : ℕ) → 0 < n → n ≤ 9999 → IsCount (decimal n) n
number_counts n low high = record { written = refl; low = omega arith; high = high }

cite_of : (first last : ℕ) (sub : Bool) → 0 < first → first ≤ last → last ≤ 9999 → (sub ≡ false → first ≡ last) → IsCite (decimal first ++ range_end sub last) (record { first = first; last = last; sub = sub })
cite_of first last false low order high one =
    let at_last : IsCite (decimal first ++ []) (line_cite first) = subst (λ t. IsCite t (line_cite first)) (sym (append-nil (decimal first))) (line (decimal first) first (number_counts first low (omega arith))) in
    subst (λ (n : ℕ). IsCite (decimal first ++ []) (record { first = first; last = n; sub = false })) (one refl) at_last
cite_of first last true low order high one =
    let front : IsCount (decimal first) first = number_counts first low (omega arith) in
    subproof (decimal first ++ 45 ∷ decimal last) first last (record {
      front = decimal first;
      back = decimal last;
      parted = record { joined = refl; first = count_lacks_hyphen (decimal first) first front };
      from_line = front;
      to_line = number_counts last (omega arith) high;
      in_order = order;
    })

part_read : (c : Cite) → IsCiteForm c → IsPart (32 ∷ cite_text c) c
part_read c h = subst (λ t. IsCite t c) (sym (trimmed_ink (cite_text c) (cite_begins c h) (cite_ends c h))) (cite_of c.first c.last c.sub h.from_one h.in_order h.four_digits h.one_number)

cite_lacks_comma : (c : Cite) → IsCiteForm c → Lacks 44 (cite_text c)
cite_lacks_comma c h = lacks_where in_cite 44 cite_no_comma (cite_text c) (cite_bytes c h)

abbrev with_commas : List Cite → List ℕ
with_commas cs = separated (44 ∷ 32 ∷ []) (map cite_text cs)

pub cites_read : (c : Cite) (cs : List Cite) → AllByRecursion IsCiteForm (c ∷ cs) → Beside IsPart (slice_split (λ b. eqb b 44) (32 ∷ with_commas (c ∷ cs))) (c ∷ cs)
cites_read c [] h = subst (λ ts. Beside IsPart ts (c ∷ [])) (sym (split_lacks 44 (32 ∷ cite_text c) (cite_lacks_comma c h.0))) (part_read c h.0, tt)
cites_read c (d ∷ cs) h =
    let cut : IsCut 44 (32 ∷ with_commas (c ∷ d ∷ cs)) (32 ∷ cite_text c) (32 ∷ with_commas (d ∷ cs)) =
    record { joined = ap (λ t. 32 ∷ t) (append_assoc (cite_text c) (44 ∷ 32 ∷ []) (with_commas (d ∷ cs))); first = cite_lacks_comma c h.0 } in
    subst (λ ts. Beside IsPart ts (c ∷ d ∷ cs)) (sym (split_cut 44 (32 ∷ with_commas (c ∷ d ∷ cs)) (32 ∷ cite_text c) (32 ∷ with_commas (d ∷ cs)) cut)) (part_read c h.0, cites_read d cs h.1)

pub cites_lack_feed : (c : Cite) (cs : List Cite) → AllByRecursion IsCiteForm (c ∷ cs) → Lacks 10 (with_commas (c ∷ cs))
cites_lack_feed c [] h = lacks_where in_cite 10 cite_no_feed (cite_text c) (cite_bytes c h.0)
cites_lack_feed c (d ∷ cs) h =
    lacks_append 10 (cite_text c ++ 44 ∷ 32 ∷ []) (with_commas (d ∷ cs)) (lacks_append 10 (cite_text c) (44 ∷ 32 ∷ []) (lacks_where in_cite 10 cite_no_feed (cite_text c) (cite_bytes c h.0)) refl) (cites_lack_feed d cs h.1)

pub cites_end : (c : Cite) (cs : List Cite) → AllByRecursion IsCiteForm (c ∷ cs) → ends_well (with_commas (c ∷ cs)) ≡ true
cites_end c [] h = cite_ends c h.0
cites_end c (d ∷ cs) h = ends_append (cite_text c ++ 44 ∷ 32 ∷ []) (with_commas (d ∷ cs)) (cites_end d cs h.1)

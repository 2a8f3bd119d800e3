-- What is printed of lines is read back as these lines.
use Rattle.std.proofs.Common.{◌≡◌, ◌≢◌, ℕ, ◌+◌, ◌<◌, ◌≤◌, ◌^◌, eqb, true, false, not, List, [], ◌∷◌, ◌++◌, length, map, Option, Some, None, refl, sym, ap, ap₂, subst, ◌∙◌, append_assoc, arith, inl, inr, length-append}
use Rattle.std.specs.Prelude.{◌&&◌, ◌⊎◌, is_some}
use Rattle.std.specs.Fmt.{decimal}
use Rattle.std.specs.List.{AllByRecursion}
use Rattle.std.specs.Str.Lines.{lines}
use Rattle.std.proofs.lemmas.List.{append-nil}
use Rattle.std.proofs.lemmas.Bool.Decides.{nat_tests}
use Rattle.texts.specs.Blanks.{trimmed}
use Rattle.texts.specs.Cuts.{Lacks, IsCut}
use Rattle.texts.proofs.Splitting.{lines-cut}
use Rattle.fol_core.specs.Word.{Word, is_digit}
use Rattle.fol_core.specs.declared.sent.Sent.{Sent}
use Rattle.fol_text.specs.Printed.{printed, separated}
use Rattle.fol_text.proofs.ReadBack.{printed_readable}
use Rattle.deriv_laws.specs.declared.line.Cite.{Cite}
use Rattle.deriv_laws.specs.declared.line.FlatLine.{FlatLine}
use Rattle.deriv_laws.specs.declared.rule.Rule.{Rule}
use Rattle.deriv_laws.specs.declared.rule.Rule.TheVariants as r
use Rattle.nested_proofs.specs.Levels.{level, level_at}
use Rattle.nested_proofs.specs.Nesting.{IsShaped, WellNested}
use Rattle.nested_proofs.specs.Limits.{DepthFits, depth_after, AreInForm, IsLineForm, AreLines}
use Rattle.nested_proofs.proofs.Growing.{depth_of_last}
use Rattle.fitch_file.specs.Boxes.{BeginsBox, IsBoxed}
use Rattle.fitch_file.specs.RuleNames.{name_of, IsRuleName}
use Rattle.fitch_file.specs.Numbering.{IsDepth, bars, after_bars}
use Rattle.fitch_file.specs.Cites.{AreCited, may_cite}
use Rattle.fitch_file.specs.Claim.{Claim, IsClaim, IsReason, is_nothing, suits}
use Rattle.fitch_file.specs.Line.{IsStated, IsClaimed, IsLine}
use Rattle.physical_lines.specs.Physical.{ComesFirst, at_once, IsHeaded}
use Rattle.fitch_file.specs.Headers.{proof_header}
use Rattle.fitch_file.specs.ProofText.{SpellLines, no_more, proof_line, SpellsProof}
use Rattle.fitch_file.specs.PrintedProof.{name_text, bars_text, box_text, stated_text, cite_text, cites_text, reason_text, claim_text, printed_line, printed_lines, printed_proof, StatesReadableText, BoxesName, IsReadBack}
use Rattle.fitch_file.proofs.Boxing.{name_is_ident}
use Rattle.fitch_file.proofs.Digits.{decimal_digits}
use Rattle.fitch_file.proofs.PrintingInk.{begins_well, begins_visible, begins_append, ends_well, ends_append, keeps_end, lacks_where, lacks_append, no_semicolon, no_feed, trimmed_ink, trimmed_spaced}
use Rattle.fitch_file.proofs.PrintingSentences.{ident_ink, printed_ink}
use Rattle.fitch_file.proofs.PrintingParts.{begins_body, bars_counted, bars_passed, bars_lack_feed, IsPrintedName, printed_name, cites_read, cites_lack_feed, cites_end}

-- the sentence

-- The text of the sentence alone.
abbrev said : Option Sent → List ℕ
said None = []
said (Some s) = printed s

not_empty : (t : List ℕ) → begins_well t ≡ true → not (is_nothing t) ≡ true
not_empty [] h = absurd (cc)
not_empty (b ∷ bs) h = refl

no_list : (t : List ℕ) → begins_well t ≡ true → t ≢ []
no_list [] h = absurd (cc)
no_list (b ∷ bs) h = λ e. absurd (cc)

said_some : (o : Option Sent) (s : Sent) → o ≡ Some s → StatesReadableText o → not (is_nothing (said o)) ≡ true
said_some None s e h = absurd (cc)
said_some (Some t) s e h = not_empty (printed t) (printed_ink t h.formed).begins

said_none : (o : Option Sent) → o ≡ None → is_nothing (said o) ≡ true
said_none None e = refl
said_none (Some t) e = absurd (cc)

stated_back : (o : Option Sent) → StatesReadableText o → IsStated (said o) o
stated_back None h = refl
stated_back (Some s) h = (no_list (printed s) (printed_ink s h.formed).begins, printed_readable s (printed s) refl h.formed h.closed h.within h.short)

stated_begins : (o : Option Sent) (rest : List ℕ) → StatesReadableText o → begins_well (stated_text o ++ 59 ∷ rest) ≡ true
stated_begins None rest h = refl
stated_begins (Some s) rest h = begins_append (printed s ++ 32 ∷ []) (59 ∷ rest) (begins_append (printed s) (32 ∷ []) (printed_ink s h.formed).begins)

stated_no_semicolon : (o : Option Sent) → StatesReadableText o → Lacks 59 (stated_text o)
stated_no_semicolon None h = refl
stated_no_semicolon (Some s) h = lacks_append 59 (printed s) (32 ∷ []) (no_semicolon (printed s) (printed_ink s h.formed)) refl

stated_no_feed : (o : Option Sent) → StatesReadableText o → Lacks 10 (stated_text o)
stated_no_feed None h = refl
stated_no_feed (Some s) h = lacks_append 10 (printed s) (32 ∷ []) (no_feed (printed s) (printed_ink s h.formed)) refl

stated_trimmed : (o : Option Sent) → StatesReadableText o → trimmed (stated_text o) ≡ said o
stated_trimmed None h = refl
stated_trimmed (Some s) h = let i = printed_ink s h.formed in trimmed_spaced (printed s) (begins_visible (printed s) i.begins) i.ends

-- the box

-- What follows the box: a space stands behind it where there is one.
abbrev behind_box : Option Word → List ℕ → List ℕ
behind_box None t = t
behind_box (Some c) t = 32 ∷ t

first_no_bracket : (t : List ℕ) (name after : List ℕ) → begins_well t ≡ true → BeginsBox t name after → ⊥
first_no_bracket [] name after h k = absurd (cc)
first_no_bracket (b ∷ bs) name after h k =
    let e : b ∷ bs ≡ 91 ∷ name ++ 93 ∷ after = k.begins in
    let f : b ≡ 91 = cc in
    let g : begins_well (91 ∷ bs) ≡ true = subst (λ x. begins_well (x ∷ bs) ≡ true) f h in
    absurd (cc)

box_read : (b : Option Word) (t : List ℕ) → BoxesName b → begins_well t ≡ true → IsBoxed (box_text b ++ t) b (behind_box b t)
box_read None t h k = (refl, λ name after e. first_no_bracket t name after k e)
box_read (Some c) t h k = record { begins = ap (λ u. 91 ∷ u) (append_assoc c (93 ∷ 32 ∷ []) t); named = h }

first_no_bar : (t : List ℕ) → begins_well t ≡ true → begins_body t ≡ true
first_no_bar [] h = refl
first_no_bar (b ∷ bs) h = grind (arith, nat_tests)

box_begins : (b : Option Word) (t : List ℕ) → begins_well t ≡ true → begins_body (box_text b ++ t) ≡ true
box_begins None t h = first_no_bar t h
box_begins (Some c) t h = refl

box_no_feed : (b : Option Word) → BoxesName b → Lacks 10 (box_text b)
box_no_feed None h = refl
box_no_feed (Some c) h = lacks_append 10 c (93 ∷ 32 ∷ []) (no_feed c (ident_ink c (name_is_ident c h))) refl

behind_cut : (b : Option Word) (front reason : List ℕ) → Lacks 59 front → IsCut 59 (behind_box b (front ++ 59 ∷ reason)) (behind_box b front) reason
behind_cut None front reason h = record { joined = refl; first = h }
behind_cut (Some c) front reason h = record { joined = refl; first = h }

behind_trimmed : (b : Option Word) (t : List ℕ) → trimmed (behind_box b t) ≡ trimmed t
behind_trimmed None t = refl
behind_trimmed (Some c) t = refl

-- the rule suits its box and its sentence

one_suits : (l : FlatLine) (s : Sent) → l.sentence ≡ Some s → l.boxed ≡ None → StatesReadableText l.sentence → (not (is_some l.boxed) && not (is_nothing (said l.sentence))) ≡ true
one_suits l s e b h = ap₂ ◌&&◌ (ap (λ (o : Option Word). not (is_some o)) b) (said_some l.sentence s e h)

suited : (l : FlatLine) (rule : Rule) → IsShaped l rule → StatesReadableText l.sentence → suits rule l.boxed (said l.sentence) ≡ true
suited l r.Assume h k = said_some l.sentence h.0 h.1 k
suited l r.BoxOnly h k = ap₂ ◌&&◌ (ap (λ (o : Option Word). is_some o) h.1) (said_none l.sentence h.2)
suited l r.Premise h k = one_suits l h.0 h.1 h.2 k
suited l _ h k = one_suits l h.0 h.1 h.2 k

outside : (l : FlatLine) (rule : Rule) → IsShaped l rule → rule ≡ r.Premise → l.depth ≡ 1
outside l r.Premise h e = h.3
outside l _ h e = absurd (cc)

-- the cites

-- The text behind the colon, where there are cites.
abbrev cited_text : List Cite → Option (List ℕ)
cited_text [] = None
cited_text (c ∷ cs) = Some (32 ∷ separated (44 ∷ 32 ∷ []) (map cite_text (c ∷ cs)))

cites_where : (l : FlatLine) (rule : Rule) → IsShaped l rule → (l.cites ≡ []) ⊎ (may_cite rule ≡ true)
cites_where l r.Assume h = inl h.2
cites_where l r.BoxOnly h = inl h.3
cites_where l r.Premise h = inl h.4
cites_where l _ h = inr refl

cited_back : (rule : Rule) (cites : List Cite) → (cites ≡ []) ⊎ (may_cite rule ≡ true) → AreInForm cites → AreCited rule (cited_text cites) cites
cited_back rule [] h k = refl
cited_back rule (c ∷ cs) (inl h) k = absurd (cc)
cited_back rule (c ∷ cs) (inr h) k = (h, record { each = cites_read c cs k.forms; few = k.few })

reason_back : (rule : Rule) (cites : List Cite) → IsReason (32 ∷ (name_text (name_of rule) ++ cites_text cites)) rule (cited_text cites)
reason_back rule [] =
    let n : IsPrintedName (name_of rule) = printed_name (name_of rule) in
    let t = name_text (name_of rule) in
    let at : (Lacks 58 (32 ∷ t)) × IsRuleName (trimmed (32 ∷ t)) rule = (n.no_colon, subst (λ x. IsRuleName x rule) (sym (trimmed_ink t n.begins n.ends)) n.named) in
    subst (λ x. Lacks 58 (32 ∷ x) × IsRuleName (trimmed (32 ∷ x)) rule) (sym (append-nil t)) at
reason_back rule (c ∷ cs) =
    let n : IsPrintedName (name_of rule) = printed_name (name_of rule) in
    let t = name_text (name_of rule) in
    (32 ∷ t, record { joined = refl; first = n.no_colon }, subst (λ x. IsRuleName x rule) (sym (trimmed_ink t n.begins n.ends)) n.named)

cites_no_feed : (cites : List Cite) → AreInForm cites → Lacks 10 (cites_text cites)
cites_no_feed [] h = refl
cites_no_feed (c ∷ cs) h = cites_lack_feed c cs h.forms

reason_ends : (n : List ℕ) (cites : List Cite) → ends_well n ≡ true → AreInForm cites → ends_well (n ++ cites_text cites) ≡ true
reason_ends n [] e h = subst (λ t. ends_well t ≡ true) (sym (append-nil n)) e
reason_ends n (c ∷ cs) e h = ends_append n (cites_text (c ∷ cs)) (ends_append (58 ∷ 32 ∷ []) (separated (44 ∷ 32 ∷ []) (map cite_text (c ∷ cs))) (cites_end c cs h.forms))

-- a line

-- What stands around a line that is read back: it has its rule's shape and its form, and its parts are read back.
record IsSound (l : FlatLine) : Type 0 where
  pub shaped : IsShaped l l.rule
  pub form : IsLineForm l
  pub back : IsReadBack l

abbrev claimed : FlatLine → Claim
claimed l = record { boxed = l.boxed; stated = said l.sentence; rule = l.rule; cites = cited_text l.cites }

abbrev behind : FlatLine → List ℕ
behind l = stated_text l.sentence ++ 59 ∷ 32 ∷ reason_text l

claim_back : (l : FlatLine) → IsSound l → IsClaim (claim_text l) (claimed l)
claim_back l h = record {
  rest = behind_box l.boxed (behind l);
  sentence = behind_box l.boxed (stated_text l.sentence);
  reason = 32 ∷ reason_text l;
  boxed = box_read l.boxed (behind l) h.back.boxes (stated_begins l.sentence (32 ∷ reason_text l) h.back.states);
  parted = behind_cut l.boxed (stated_text l.sentence) (32 ∷ reason_text l) (stated_no_semicolon l.sentence h.back.states);
  stated = sym (behind_trimmed l.boxed (stated_text l.sentence) ∙ stated_trimmed l.sentence h.back.states);
  reasoned = reason_back l.rule l.cites;
  suited = suited l l.rule h.shaped h.back.states;
}

claim_begins : (l : FlatLine) → IsSound l → begins_body (claim_text l) ≡ true
claim_begins l h = box_begins l.boxed (behind l) (stated_begins l.sentence (32 ∷ reason_text l) h.back.states)

claimed_back : (l : FlatLine) → IsSound l → IsClaimed l.depth (claimed l) l
claimed_back l h = record {
  deep = refl;
  boxes = refl;
  rules = refl;
  stated = stated_back l.sentence h.back.states;
  cited = cited_back l.rule l.cites (cites_where l l.rule h.shaped) h.form.cites;
}

level_deep : (rule : Rule) (d : ℕ) → 0 < level_at rule d → 1 ≤ d
level_deep r.Assume d h = omega (arith, h)
level_deep r.BoxOnly d h = omega (arith, h)
level_deep _ d h = omega (arith, h)

line_back : (earlier : List FlatLine) (l : FlatLine) → length earlier < 2000 → IsSound l → 0 < level l → level l ≤ depth_after 1 earlier → IsLine earlier (printed_line (length earlier + 1) l) l
line_back earlier l room h low high =
    let body : List ℕ = 32 ∷ (bars_text l.depth ++ claim_text l) in
    let counted : bars body ≡ l.depth = bars_counted l.depth (claim_text l) (claim_begins l h) in
    let passed : after_bars body ≡ claim_text l = bars_passed l.depth (claim_text l) (claim_begins l h) in
    let deep : IsDepth l.depth = record { some = level_deep l.rule l.depth low; few = h.form.not_deep } in
    let fits : DepthFits (depth_after 1 earlier) l.rule l.depth = record { in_a_list = low; not_deeper = high; premise_outside = outside l l.rule h.shaped; limit = h.form.not_deep } in
    record {
      room = room;
      body = body;
      numbered = record { written = refl; ends = refl };
      depth = subst IsDepth (sym counted) deep;
      claim = claimed l;
      claims = subst (λ t. IsClaim t (claimed l)) (sym passed) (claim_back l h);
      fits = subst (λ d. DepthFits (depth_after 1 earlier) l.rule d) (sym counted) fits;
      claimed = subst (λ d. IsClaimed d (claimed l) l) (sym counted) (claimed_back l h);
    }

digit_no_feed : (b : ℕ) → is_digit b ≡ true → eqb b 10 ≡ false
digit_no_feed b h = grind (arith, nat_tests)

line_no_feed : (n : ℕ) (l : FlatLine) → n < 2 ^ 64 → IsSound l → Lacks 10 (printed_line n l)
line_no_feed n l small h =
    lacks_append 10 (decimal n) (32 ∷ (bars_text l.depth ++ claim_text l)) (lacks_where is_digit 10 digit_no_feed (decimal n) (decimal_digits n small))
    (lacks_append 10 (bars_text l.depth) (claim_text l) (bars_lack_feed l.depth)
    (lacks_append 10 (box_text l.boxed) (behind l) (box_no_feed l.boxed h.back.boxes)
    (lacks_append 10 (stated_text l.sentence) (59 ∷ 32 ∷ reason_text l) (stated_no_feed l.sentence h.back.states)
    (lacks_append 10 (name_text (name_of l.rule)) (cites_text l.cites) (printed_name (name_of l.rule)).no_feed (cites_no_feed l.cites h.form.cites)))))

line_ends : (n : ℕ) (l : FlatLine) → IsSound l → ends_well (printed_line n l) ≡ true
line_ends n l h =
    let reason : ends_well (reason_text l) ≡ true = reason_ends (name_text (name_of l.rule)) l.cites (printed_name (name_of l.rule)).ends h.form.cites in
    let all : ends_well (behind l) ≡ true = ends_append (stated_text l.sentence) (59 ∷ 32 ∷ reason_text l) (ends_append (59 ∷ 32 ∷ []) (reason_text l) reason) in
    ends_append (decimal n) (32 ∷ (bars_text l.depth ++ claim_text l)) (ends_append (32 ∷ []) (bars_text l.depth ++ claim_text l)
    (ends_append (bars_text l.depth) (claim_text l) (ends_append (box_text l.boxed) (behind l) all)))

-- the lines

first_line : (n : ℕ) (l : FlatLine) (ls : List FlatLine) → n < 2 ^ 64 → IsSound l → lines (printed_lines n (l ∷ ls)) ≡ printed_line n l ∷ lines (printed_lines (n + 1) ls)
first_line n l ls small h =
    lines-cut (printed_lines n (l ∷ ls)) (printed_line n l) (printed_lines (n + 1) ls) (record { joined = refl; first = line_no_feed n l small h })
    ∙ ap (λ t. t ∷ lines (printed_lines (n + 1) ls)) (keeps_end (printed_line n l) (line_ends n l h))

lines_back : (earlier ls : List FlatLine) → length earlier + length ls ≤ 2000 → WellNested (depth_after 1 earlier) ls → AllByRecursion IsLineForm ls → AllByRecursion IsReadBack ls
    → SpellLines earlier (lines (printed_lines (length earlier + 1) ls)) ls
lines_back earlier [] few nested forms back = no_more earlier
lines_back earlier (l ∷ ls) few nested forms back =
    let h : IsSound l = record { shaped = nested.0; form = forms.0; back = back.0 } in
    let n : ℕ = length earlier + 1 in
    let grown : length (earlier ++ l ∷ []) ≡ n = omega (arith, length-append earlier (l ∷ [])) in
    let deeper : WellNested (depth_after 1 (earlier ++ l ∷ [])) ls = subst (λ k. WellNested k ls) (sym (depth_of_last 1 earlier l)) nested.3 in
    let more : SpellLines (earlier ++ l ∷ []) (lines (printed_lines (length (earlier ++ l ∷ []) + 1) ls)) ls = lines_back (earlier ++ l ∷ []) ls (omega (arith, few, grown)) deeper forms.1 back.1 in
    let rest : SpellLines (earlier ++ l ∷ []) (lines (printed_lines (n + 1) ls)) ls = subst (λ m. SpellLines (earlier ++ l ∷ []) (lines (printed_lines (m + 1) ls)) ls) grown more in
    subst (λ ts. SpellLines earlier ts (l ∷ ls)) (sym (first_line n l ls (omega (arith, few)) h))
    (proof_line earlier (printed_line n l) (lines (printed_lines (n + 1) ls)) l ls (line_back earlier l (omega (arith, few)) h nested.1 nested.2) rest)

header_first : (rest : List ℕ) → lines (proof_header ++ 10 ∷ rest) ≡ proof_header ∷ lines rest
header_first rest = lines-cut (proof_header ++ 10 ∷ rest) proof_header rest (record { joined = refl; first = refl })

-- The printed text of the lines of one nested proof spells these lines, where each of them is read back.
pub proof_back : (ls : List FlatLine) (text : List ℕ) → text ≡ printed_proof ls → AreLines ls → AllByRecursion IsReadBack ls → SpellsProof text ls
proof_back ls text e h back =
    let first : ComesFirst 1 (proof_header ∷ lines (printed_lines 1 ls)) 1 proof_header (lines (printed_lines 1 ls)) = at_once 1 proof_header (lines (printed_lines 1 ls)) (λ x. absurd (cc)) in
    let headed : IsHeaded proof_header (proof_header ∷ lines (printed_lines 1 ls)) 1 (lines (printed_lines 1 ls)) = record { line = proof_header; first = first; is = refl } in
    let whole : SpellsProof (printed_proof ls) ls = record {
      place = 1;
      rest = lines (printed_lines 1 ls);
      headed = subst (λ ts. IsHeaded proof_header ts 1 (lines (printed_lines 1 ls))) (sym (header_first (printed_lines 1 ls))) headed;
      spell = lines_back [] ls (omega (arith, h.few)) h.well_nested h.forms back;
    } in
    subst (λ t. SpellsProof t ls) (sym e) whole

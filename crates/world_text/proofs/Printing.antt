-- What is printed of a world is read as the same world.
use Rattle.std.proofs.Common.{◌≡◌, ℕ, zero, suc, Bool, true, false, not, List, [], ◌∷◌, ◌++◌, map, arith, refl, sym, ap, subst, ◌∙◌, append-nil}
use Rattle.std.specs.Prelude.{◌==◌, ◌&&◌, nat_lt, nat_le, Option, Some, None, if◌then◌else◌}
use Rattle.std.specs.List.{list_all, cons_option}
use Rattle.std.specs.Fmt.{decimal}
use Rattle.std.proofs.lemmas.Fmt.{decimal_digit}
use Rattle.std.proofs.lemmas.Bool.{or_from, and_parts, and_from, ne_eqb, ltb-true, leb-true, not-true}
use Rattle.std.proofs.lemmas.List.{append_assoc}
use Rattle.texts.specs.Blanks.{is_blank}
use Rattle.worlds.specs.declared.block.Block.{Block}
use Rattle.worlds.specs.declared.block.Names.{Names}
use Rattle.worlds.specs.declared.block.Shape.{Shape}
use Rattle.worlds.specs.declared.block.Shape.TheVariants.{Tet, Cube, Dodec}
use Rattle.worlds.specs.declared.block.Size.{Size}
use Rattle.worlds.specs.declared.block.Size.TheVariants.{Small, Medium, Large}
use Rattle.worlds.specs.Geometry.{is_place, is_on_board}
use Rattle.world_text.specs.Lines.{is_blank_line, words, begins_blank}
use Rattle.world_text.specs.BlockLines.{Said, says_names, stands_in, names_in, shape_of, size_of, number_of, said_by, said_in, block_said, blocks_of}
use Rattle.world_text.specs.WorldText.{repeats_name}
use Rattle.world_text.specs.Printed.{names_text, shape_text, size_text, block_text}
use Rattle.world_text.proofs.Wording.{no_blank, words_split}

-- printed words

-- The byte is printed as ink: it is no blank and ends no line.
abbrev pub is_ink : ℕ → Bool
is_ink b = nat_lt 32 b

-- The text is a word: it has a byte, and each is ink.
abbrev pub is_word : List ℕ → Bool
is_word [] = false
is_word (b ∷ bs) = list_all is_ink (b ∷ bs)

abbrev each : (Bool → Bool) → Bool
each f = f true && f false

each_at : (f : Bool → Bool) → each f ≡ true → (b : Bool) → f b ≡ true
each_at f h true = (and_parts (f true) (f false) h).0
each_at f h false = (and_parts (f true) (f false) h).1

-- a test that each of the 64 sets of names passes
names_all : (P : Names → Bool) → each (λ a. each (λ b. each (λ c. each (λ d. each (λ e. each (λ f. P (record { a = a; b = b; c = c; d = d; e = e; f = f }))))))) ≡ true →
    (a b c d e f : Bool) → P (record { a = a; b = b; c = c; d = d; e = e; f = f }) ≡ true
names_all P h a b c d e f =
    each_at (λ f. P (record { a = a; b = b; c = c; d = d; e = e; f = f }))
    (each_at (λ e. each (λ f. P (record { a = a; b = b; c = c; d = d; e = e; f = f })))
    (each_at (λ d. each (λ e. each (λ f. P (record { a = a; b = b; c = c; d = d; e = e; f = f }))))
    (each_at (λ c. each (λ d. each (λ e. each (λ f. P (record { a = a; b = b; c = c; d = d; e = e; f = f })))))
    (each_at (λ b. each (λ c. each (λ d. each (λ e. each (λ f. P (record { a = a; b = b; c = c; d = d; e = e; f = f }))))))
    (each_at (λ a. each (λ b. each (λ c. each (λ d. each (λ e. each (λ f. P (record { a = a; b = b; c = c; d = d; e = e; f = f }))))))) h a) b) c) d) e) f

pub names_word : (n : Names) → is_word (names_text n) ≡ true
names_word n = names_all (λ m. is_word (names_text m)) refl n.a n.b n.c n.d n.e n.f

names_said : (n : Names) → says_names (names_text n) ≡ true
names_said n = names_all (λ m. says_names (names_text m)) refl n.a n.b n.c n.d n.e n.f

pub names_once : (n : Names) → not (repeats_name (λ l. false) (names_text n)) ≡ true
names_once n = names_all (λ m. not (repeats_name (λ l. false) (names_text m))) refl n.a n.b n.c n.d n.e n.f

abbrev alike : Bool → Bool → Bool
alike true b = b
alike false b = not b

alike_same : (a b : Bool) → alike a b ≡ true → a ≡ b
alike_same true b h = sym h
alike_same false b h = sym (not-true b h)

has_a : (n : Names) → stands_in 97 (names_text n) ≡ n.a
has_a n = alike_same (stands_in 97 (names_text n)) n.a (names_all (λ m. alike (stands_in 97 (names_text m)) m.a) refl n.a n.b n.c n.d n.e n.f)

has_b : (n : Names) → stands_in 98 (names_text n) ≡ n.b
has_b n = alike_same (stands_in 98 (names_text n)) n.b (names_all (λ m. alike (stands_in 98 (names_text m)) m.b) refl n.a n.b n.c n.d n.e n.f)

has_c : (n : Names) → stands_in 99 (names_text n) ≡ n.c
has_c n = alike_same (stands_in 99 (names_text n)) n.c (names_all (λ m. alike (stands_in 99 (names_text m)) m.c) refl n.a n.b n.c n.d n.e n.f)

has_d : (n : Names) → stands_in 100 (names_text n) ≡ n.d
has_d n = alike_same (stands_in 100 (names_text n)) n.d (names_all (λ m. alike (stands_in 100 (names_text m)) m.d) refl n.a n.b n.c n.d n.e n.f)

has_e : (n : Names) → stands_in 101 (names_text n) ≡ n.e
has_e n = alike_same (stands_in 101 (names_text n)) n.e (names_all (λ m. alike (stands_in 101 (names_text m)) m.e) refl n.a n.b n.c n.d n.e n.f)

has_f : (n : Names) → stands_in 102 (names_text n) ≡ n.f
has_f n = alike_same (stands_in 102 (names_text n)) n.f (names_all (λ m. alike (stands_in 102 (names_text m)) m.f) refl n.a n.b n.c n.d n.e n.f)

pub names_back : (n : Names) → names_in (names_text n) ≡ n
names_back n = rw (has_a n) (rw (has_b n) (rw (has_c n) (rw (has_d n) (rw (has_e n) (rw (has_f n) refl)))))

pub shape_word : (s : Shape) → (is_word (shape_text s) ≡ true) × (shape_of (shape_text s) ≡ Some s)
shape_word Tet = (refl, refl)
shape_word Cube = (refl, refl)
shape_word Dodec = (refl, refl)

pub size_word : (s : Size) → (is_word (size_text s) ≡ true) × (size_of (size_text s) ≡ Some s)
size_word Small = (refl, refl)
size_word Medium = (refl, refl)
size_word Large = (refl, refl)

too_high : (n : ℕ) → is_place (suc (suc (suc (suc (suc (suc (suc (suc (suc n))))))))) ≡ true → ⊥
too_high n h = omega (arith, leb-true (suc (suc (suc (suc (suc (suc (suc (suc (suc n))))))))) 8 (and_parts (nat_le 1 (suc (suc (suc (suc (suc (suc (suc (suc (suc n)))))))))) (nat_le (suc (suc (suc (suc (suc (suc (suc (suc (suc n))))))))) 8) h).1)

abbrev pub IsNumberWord : ℕ → Type 0
IsNumberWord n = (is_word (decimal n) ≡ true) × (number_of (decimal n) ≡ Some n)

pub place_word : (n : ℕ) → is_place n ≡ true → IsNumberWord n
place_word zero h = absurd (cc)
place_word (suc zero) h = rw (decimal_digit 1 (omega arith)) (refl, refl)
place_word (suc (suc zero)) h = rw (decimal_digit 2 (omega arith)) (refl, refl)
place_word (suc (suc (suc zero))) h = rw (decimal_digit 3 (omega arith)) (refl, refl)
place_word (suc (suc (suc (suc zero)))) h = rw (decimal_digit 4 (omega arith)) (refl, refl)
place_word (suc (suc (suc (suc (suc zero))))) h = rw (decimal_digit 5 (omega arith)) (refl, refl)
place_word (suc (suc (suc (suc (suc (suc zero)))))) h = rw (decimal_digit 6 (omega arith)) (refl, refl)
place_word (suc (suc (suc (suc (suc (suc (suc zero))))))) h = rw (decimal_digit 7 (omega arith)) (refl, refl)
place_word (suc (suc (suc (suc (suc (suc (suc (suc zero)))))))) h = rw (decimal_digit 8 (omega arith)) (refl, refl)
place_word (suc (suc (suc (suc (suc (suc (suc (suc (suc n))))))))) h = absurd (too_high n h)

ink_blank : (b : ℕ) → is_ink b ≡ true → is_blank b ≡ false
ink_blank b h = or_from (b == 32) (b == 9) (ne_eqb b 32 (λ e. omega (arith, ltb-true 32 b h))) (ne_eqb b 9 (λ e. omega (arith, ltb-true 32 b h)))

ink_all : (w : List ℕ) → list_all is_ink w ≡ true → no_blank w ≡ true
ink_all [] h = refl
ink_all (b ∷ w) h =
    let p : (is_ink b ≡ true) × (list_all is_ink w ≡ true) = and_parts (is_ink b) (list_all is_ink w) h in
    and_from (not (is_blank b)) (no_blank w) (ap not (ink_blank b p.0)) (ink_all w p.1)

front_word : (w rest : List ℕ) → is_word w ≡ true → words (w ++ (32 ∷ rest)) ≡ w ∷ words rest
front_word [] rest h = absurd (cc)
front_word (b ∷ w) rest h = words_split b w (32 ∷ rest) (ink_all (b ∷ w) h) refl

last_word : (w : List ℕ) → is_word w ≡ true → words w ≡ w ∷ []
last_word [] h = absurd (cc)
last_word (b ∷ w) h = ap words (sym (append-nil (b ∷ w))) ∙ words_split b w [] (ink_all (b ∷ w) h) refl

begins_ink : (w rest : List ℕ) → is_word w ≡ true → (begins_blank (w ++ rest) ≡ false) × (is_blank_line (w ++ rest) ≡ false)
begins_ink [] rest h = absurd (cc)
begins_ink (b ∷ w) rest h = let e : is_blank b ≡ false = ink_blank b (and_parts (is_ink b) (list_all is_ink w) h).0 in rw e (refl, refl)

-- a printed line

five : (n s z c r : List ℕ) → n ++ (32 ∷ s) ++ (32 ∷ z) ++ (32 ∷ c) ++ (32 ∷ r) ≡ n ++ (32 ∷ (s ++ (32 ∷ (z ++ (32 ∷ (c ++ (32 ∷ r)))))))
five n s z c r =
    append_assoc (n ++ (32 ∷ s) ++ (32 ∷ z)) (32 ∷ c) (32 ∷ r)
    ∙ append_assoc (n ++ (32 ∷ s)) (32 ∷ z) ((32 ∷ c) ++ (32 ∷ r))
    ∙ append_assoc n (32 ∷ s) ((32 ∷ z) ++ ((32 ∷ c) ++ (32 ∷ r)))

five_words : (n s z c r : List ℕ) → is_word n ≡ true → is_word s ≡ true → is_word z ≡ true → is_word c ≡ true → is_word r ≡ true →
    words (n ++ (32 ∷ s) ++ (32 ∷ z) ++ (32 ∷ c) ++ (32 ∷ r)) ≡ n ∷ s ∷ z ∷ c ∷ r ∷ []
five_words n s z c r hn hs hz hc hr =
    ap words (five n s z c r)
    ∙ front_word n (s ++ (32 ∷ (z ++ (32 ∷ (c ++ (32 ∷ r)))))) hn
    ∙ ap (λ ws. n ∷ ws) (front_word s (z ++ (32 ∷ (c ++ (32 ∷ r)))) hs
    ∙ ap (λ ws. s ∷ ws) (front_word z (c ++ (32 ∷ r)) hz
    ∙ ap (λ ws. z ∷ ws) (front_word c r hc
    ∙ ap (λ ws. c ∷ ws) (last_word r hr))))

abbrev pub says : Block → Said
says b = record { names = names_text b.names; shape = b.shape; size = b.size; column = b.column; row = b.row }

said_five : (b : Block) → is_on_board b ≡ true → said_by (names_text b.names ∷ shape_text b.shape ∷ size_text b.size ∷ decimal b.column ∷ decimal b.row ∷ []) ≡ Some (says b)
said_five b h =
    let p : (is_place b.column ≡ true) × (is_place b.row ≡ true) = and_parts (is_place b.column) (is_place b.row) h in
    rw (names_said b.names) (rw ((shape_word b.shape).1) (rw ((size_word b.size).1) (rw ((place_word b.column p.0).1) (rw ((place_word b.row p.1).1) refl))))

pub begun : (b : Block) → (begins_blank (block_text b) ≡ false) × (is_blank_line (block_text b) ≡ false)
begun b =
    let w : List ℕ = (32 ∷ (shape_text b.shape ++ (32 ∷ (size_text b.size ++ (32 ∷ (decimal b.column ++ (32 ∷ decimal b.row))))))) in
    subst (λ t. (begins_blank t ≡ false) × (is_blank_line t ≡ false)) (sym (five (names_text b.names) (shape_text b.shape) (size_text b.size) (decimal b.column) (decimal b.row)))
    (begins_ink (names_text b.names) w (names_word b.names))

-- Nothing where the test passes.
abbrev unless : Bool → Option Said → Option Said
unless t o = if t then None else o

pub said_back : (b : Block) → is_on_board b ≡ true → said_in (block_text b) ≡ Some (says b)
said_back b h =
    let p : (is_place b.column ≡ true) × (is_place b.row ≡ true) = and_parts (is_place b.column) (is_place b.row) h in
    ap (λ t. unless t (said_by (words (block_text b)))) (begun b).0
    ∙ ap said_by (five_words (names_text b.names) (shape_text b.shape) (size_text b.size) (decimal b.column) (decimal b.row)
    (names_word b.names) (shape_word b.shape).0 (size_word b.size).0 (place_word b.column p.0).0 (place_word b.row p.1).0)
    ∙ said_five b h

pub block_back : (b : Block) → is_on_board b ≡ true → block_said (said_in (block_text b)) ≡ Some b
block_back b h = ap block_said (said_back b h) ∙ rw h (rw (names_back b.names) refl)

pub blocks_back : (w : List Block) → list_all is_on_board w ≡ true → blocks_of (map block_text w) ≡ w
blocks_back [] h = refl
blocks_back (b ∷ bs) h =
    let p : (is_on_board b ≡ true) × (list_all is_on_board bs ≡ true) = and_parts (is_on_board b) (list_all is_on_board bs) h in
    ap (λ o. cons_option o (blocks_of (map block_text bs))) (block_back b p.0) ∙ ap (λ cs. b ∷ cs) (blocks_back bs p.1)

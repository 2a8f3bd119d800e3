-- Products that stop at the greatest number of 64 bits.
use Rattle.std.proofs.Common.{◌≡◌, ℕ, zero, suc, ◌+◌, ◌*◌, ◌-◌, ◌^◌, ◌<◌, ◌≤◌, min, arith, ap, ◌∙◌, inl, inr}
use Rattle.std.proofs.lemmas.Bool.{cases_lt}
use Rattle.std.proofs.lemmas.Nat.{mul-le}
use Rattle.std.proofs.Math.Nat.{mul_comm}

few : (u count r p : ℕ) → u < 18446744073709551616 → r ≡ min u 18446744073709551615 → p ≡ min (r * count) (2 ^ 64 - 1) → min (p + 1) (2 ^ 64 - 1) ≡ min (1 + count * u) 18446744073709551615
few u count r p h e k =
    let same : r ≡ u = omega (arith, h, e) in
    let q : r * count ≡ count * u = ap (λ x. x * count) same ∙ mul_comm u count in
    omega (arith, k, q)

many : (u count r p : ℕ) → 18446744073709551616 ≤ u → r ≡ min u 18446744073709551615 → p ≡ min (r * count) (2 ^ 64 - 1) → min (p + 1) (2 ^ 64 - 1) ≡ min (1 + count * u) 18446744073709551615
many u zero r p h e k = omega (arith, k)
many u (suc c) r p h e k =
    let full : r ≡ 18446744073709551615 = omega (arith, h, e) in
    let left : r * 1 ≤ r * suc c = mul-le r 1 r (suc c) (omega arith) (omega arith) in
    let right : 1 * u ≤ suc c * u = mul-le 1 u (suc c) u (omega arith) (omega arith) in
    omega (arith, k, full, left, right, h)

-- the units of a quantifier's part, once for each block, and one more
pub product : (u count r p : ℕ) → r ≡ min u 18446744073709551615 → p ≡ min (r * count) (2 ^ 64 - 1) → min (p + 1) (2 ^ 64 - 1) ≡ min (1 + count * u) 18446744073709551615
product u count r p e k = elim (cases_lt u 18446744073709551616) [ inl h ↦ few u count r p h e k | inr h ↦ many u count r p h e k ]

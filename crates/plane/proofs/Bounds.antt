-- What 64 bits hold of a product.
use Rattle.std.proofs.Common.{◌≡◌, ◌^◌, ◌<◌, ℤ, ◌*ℤ◌, unsigned_abs, FitsSigned, to_z, of_z, w64, arith}
use Rattle.std.proofs.lemmas.Int.{fits_signed_mul, to_z-of_z, unsigned_abs-mul}

-- the product of numbers whose absolute values are below 2^16 and 2^36 is stored as it is
pub product_stored : (u v : ℤ) → FitsSigned w64 u → FitsSigned w64 v → unsigned_abs u < 2 ^ 16 → unsigned_abs v < 2 ^ 36
    → to_z w64 (of_z w64 (to_z w64 (of_z w64 u) *ℤ to_z w64 (of_z w64 v))) ≡ u *ℤ v
product_stored u v f g p q =
    let h : FitsSigned w64 (u *ℤ v) = fits_signed_mul w64 u v (2 ^ 16) (2 ^ 36) (omega arith) (omega arith) (omega arith) in
    simp to_z-of_z

-- so, and how large it is
pub ruleset products = (product_stored, unsigned_abs-mul)

-- the same below 2^16 and 2^16, and below 2^20 and 2^33
pub small_product_stored : (u v : ℤ) → FitsSigned w64 u → FitsSigned w64 v → unsigned_abs u < 2 ^ 16 → unsigned_abs v < 2 ^ 16
    → to_z w64 (of_z w64 (to_z w64 (of_z w64 u) *ℤ to_z w64 (of_z w64 v))) ≡ u *ℤ v
small_product_stored u v f g p q =
    let h : FitsSigned w64 (u *ℤ v) = fits_signed_mul w64 u v (2 ^ 16) (2 ^ 16) (omega arith) (omega arith) (omega arith) in
    simp to_z-of_z

pub scaled_product_stored : (u v : ℤ) → FitsSigned w64 u → FitsSigned w64 v → unsigned_abs u < 2 ^ 20 → unsigned_abs v < 2 ^ 33
    → to_z w64 (of_z w64 (to_z w64 (of_z w64 u) *ℤ to_z w64 (of_z w64 v))) ≡ u *ℤ v
scaled_product_stored u v f g p q =
    let h : FitsSigned w64 (u *ℤ v) = fits_signed_mul w64 u v (2 ^ 20) (2 ^ 33) (omega arith) (omega arith) (omega arith) in
    simp to_z-of_z

pub ruleset small_products = (small_product_stored, unsigned_abs-mul)

pub ruleset scaled_products = (scaled_product_stored, unsigned_abs-mul)

-- The directory's and the map's trees: their shapes and their sizes.
use Rattle.std.proofs.Common.{◌≡◌, ⊎_elim, ℕ, zero, suc, ◌*◌, ◌/◌, ◌^◌, ◌<◌, ◌≤◌, Bool, true, false, List, Ok, eqb, refl, sym, ◌∙◌, ap, subst, mul-pos, arith}
use Rattle.std.specs.Prelude.{◌&&◌, nat_le, nat_lt, nat_eq}
use Rattle.std.proofs.lemmas.Bool.{cases_Bool, cases_eq, ltb-true}
use Rattle.cms_journal.specs.Journal.{IsBlockSize}
use Rattle.cms_journal.proofs.Sizes.{block_bounds}
use Rattle.cms_fields.specs.Numbers.{is_shape, up}
use Rattle.cms_model.specs.Sizes.{levels}
use Rattle.cms_model.specs.Systems.{SystemFile, system_fields, is_directory, is_map, directory_of, map_of}
use Rattle.cms_model.proofs.Shapes.{shape_least}
use Rattle.cms_model.proofs.Quotients.{up_spec, up_some}
use Rattle.cms_model.proofs.MinidiskSizes.{directory_fits, map_fits}

-- the test against the least levels is the definition's
pub shape_decides : (fan blocks shape k : ℕ) → 2 ≤ fan → blocks < 2 ^ 32 → shape ≡ levels fan blocks → nat_eq k shape ≡ is_shape fan blocks k
shape_decides fan blocks shape k wide small least =
    let l = shape_least fan blocks k wide small in
    ⊎_elim
    (λ (e : k ≡ shape). let t : eqb k shape ≡ true = grind arith in t ∙ sym (l.1 (e ∙ least)))
    (λ ne. ⊎_elim (λ is. absurd (ne (l.0 is ∙ sym least))) (λ other. let f : eqb k shape ≡ false = grind arith in f ∙ sym other) (cases_Bool (is_shape fan blocks k)))
    (cases_eq k shape)

-- no data blocks have no levels
pub none_decides : (fan blocks k : ℕ) → 2 ≤ fan → blocks ≡ 0 → nat_eq k 0 ≡ is_shape fan blocks k
none_decides fan blocks zero wide none = rw none refl
none_decides fan blocks (suc k) wide none = let some : nat_eq (suc k) 0 ≡ false = grind arith in some ∙ rw none (fewer (nat_lt (fan ^ k) 0) (nat_le 0 (fan ^ suc k)) (none_less (fan ^ k)))
  where
    none_less : (n : ℕ) → nat_lt n 0 ≡ false
    none_less n = ⊎_elim (λ (is : nat_lt n 0 ≡ true). let less = ltb-true n 0 is in absurd (omega arith)) (λ (is : nat_lt n 0 ≡ false). is) (cases_Bool (nat_lt n 0))

    fewer : (a b : Bool) → a ≡ false → false ≡ (a && b)
    fewer a b is = rw is refl

wide_fan : (bsize : ℕ) → 512 ≤ bsize → 2 ≤ bsize / 4
wide_fan bsize size = omega arith

pub directory_shape : (bsize origin : ℕ) (bytes : List ℕ) (s : SystemFile) → IsBlockSize bsize → s.blocks < 2 ^ 32 → directory_of bsize origin bytes ≡ Ok s
    → (1 ≤ s.blocks) × (s.levels ≡ levels (bsize / 4) s.blocks) × (2 ≤ s.count) × (s.count ≤ 16386) × (s.count * 64 ≤ s.blocks * bsize)
directory_shape bsize origin bytes s size small is =
    let f = directory_fits bsize origin bytes s is in
    let low = f.low in
    let least = (block_bounds bsize size).0 in
    let blocks = f.fits.blocks in
    let room = (up_spec (s.count * 64) bsize (omega arith)).0 in
    let some = up_some (s.count * 64) bsize (omega arith) (omega arith) in (
      subst (λ (n : ℕ). 1 ≤ n) (sym blocks) some,
      (shape_least (bsize / 4) s.blocks s.levels (wide_fan bsize least) small).0 f.fits.shape,
      low,
      f.high,
      subst (λ (n : ℕ). s.count * 64 ≤ n * bsize)
          (sym blocks) room,
    )

pub map_shape : (bsize total : ℕ) (bytes : List ℕ) (s : SystemFile) → IsBlockSize bsize → 1 ≤ total → s.blocks < 2 ^ 32 → map_of bsize total bytes ≡ Ok s
    → (1 ≤ s.blocks) × (s.levels ≡ levels (bsize / 4) s.blocks) × (total ≤ 8 * (s.blocks * bsize))
map_shape bsize total bytes s size some small is =
    let f = map_fits bsize total bytes s is in
    let least = (block_bounds bsize size).0 in
    let blocks = f.fits.blocks in
    let many = up_some (up total 8) bsize (omega arith) (up_some total 8 (omega arith) some) in
    let count = f.count in
    let records = (up_spec (s.count * bsize) bsize (omega arith)).0 in
    let first = (up_spec total 8 (omega arith)).0 in
    let second = (up_spec (up total 8) bsize (omega arith)).0 in
    let held : s.count * bsize ≤ s.blocks * bsize = subst (λ (n : ℕ). s.count * bsize ≤ n * bsize) (sym blocks) records in
    let counted : up total 8 ≤ s.count * bsize = subst (λ (n : ℕ). up total 8 ≤ n * bsize) (sym count) second in
    let each : 1 ≤ s.count = subst (λ (n : ℕ). 1 ≤ n) (sym count) many in
    let least' : 1 ≤ s.count * bsize = mul-pos each (omega arith) in
    (subst (λ (n : ℕ). 1 ≤ n) (sym blocks) (up_some (s.count * bsize) bsize (omega arith) least'), (shape_least (bsize / 4) s.blocks s.levels (wide_fan bsize least) small).0 f.fits.shape, omega arith)

-- the same by the tests
directory_tested : (bsize origin : ℕ) (bytes : List ℕ) → is_directory bsize origin bytes ≡ true → directory_of bsize origin bytes ≡ Ok (system_fields bytes)
unfolding directory_of
directory_tested bsize origin bytes is = rw is refl

map_tested : (bsize total : ℕ) (bytes : List ℕ) → is_map bsize total bytes ≡ true → map_of bsize total bytes ≡ Ok (system_fields bytes)
unfolding map_of
map_tested bsize total bytes is = rw is refl

pub directory_sizes : (bsize origin : ℕ) (bytes : List ℕ) (s : SystemFile) → IsBlockSize bsize → s.blocks < 2 ^ 32 → is_directory bsize origin bytes ≡ true → s ≡ system_fields bytes
    → (1 ≤ s.blocks) × (s.levels ≡ levels (bsize / 4) s.blocks) × (2 ≤ s.count) × (s.count ≤ 16386) × (s.count * 64 ≤ s.blocks * bsize)
directory_sizes bsize origin bytes s size small is same = directory_shape bsize origin bytes s size small (directory_tested bsize origin bytes is ∙ ap Ok (sym same))

pub map_sizes : (bsize total : ℕ) (bytes : List ℕ) (s : SystemFile) → IsBlockSize bsize → 1 ≤ total → s.blocks < 2 ^ 32 → is_map bsize total bytes ≡ true → s ≡ system_fields bytes
    → (1 ≤ s.blocks) × (s.levels ≡ levels (bsize / 4) s.blocks) × (total ≤ 8 * (s.blocks * bsize))
map_sizes bsize total bytes s size some small is same = map_shape bsize total bytes s size some small (map_tested bsize total bytes is ∙ ap Ok (sym same))

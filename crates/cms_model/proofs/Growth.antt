-- A file that grows has the blocks that it had and those that it takes, without those that it gives back.
use Rattle.std.proofs.Common.{◌≡◌, ℕ, ◌+◌, ◌-◌, ◌*◌, ◌/◌, ◌%◌, ◌<◌, ◌≤◌, refl, subst, arith, div-add-mod'}
use Rattle.cms_journal.specs.Journal.{IsBlockSize}
use Rattle.cms_journal.proofs.Sizes.{block_bounds}
use Rattle.cms_names.specs.declared.name.Format.{Format}
use Rattle.cms_names.specs.declared.name.Format.TheVariants.{F, V}
use Rattle.cms_fields.specs.Entries.{fan_of}
use Rattle.cms_fields.specs.Numbers.{up}
use Rattle.cms_model.specs.Growth.{growth_given, growth_taken, places_grown}
use Rattle.cms_model.specs.SharedTrees.{MayBeWritten, any_within, fresh_count, fresh_on, fresh_to, is_kept}
use Rattle.cms_model.specs.Sizes.{levels, levels_from, tree_size}
use Rattle.cms_model.proofs.DirectoryParts.{from_row, in_row, row_ascends, row_low}
use Rattle.cms_model.proofs.Exchanges.{size_is_exchanged}
use Rattle.cms_model.proofs.Quotients.{up_more}

-- the full data blocks are no more than all
full_few : (a b : ℕ) → 0 < b → a / b ≤ up a b
full_few a b some =
    let whole : a / b * b + a % b ≡ a = div-add-mod' a b in
    let more : up (a / b * b + a % b) b ≡ a / b + up (a % b) b = up_more (a / b) (a % b) b some in
    subst (λ (n : ℕ). a / b ≤ up n b) whole (omega arith)

pub grown_may : (bsize before after : ℕ) → 0 < bsize → MayBeWritten (up before bsize) (up after bsize) (places_grown bsize before (up after bsize))
grown_may bsize before after some =
    let full = before / bsize in
    let count = up after bsize in
    record {
      ascend = row_ascends full (count - full);
      within = λ j there. (let low = row_low full j (count - full) there in let high = from_row full j (count - full) there in omega arith);
      grown = λ j low less. (let few = full_few before bsize some in in_row full j (count - full) (omega arith) (omega arith));
    }

fan_wide : (bsize : ℕ) (format : Format) → IsBlockSize bsize → 2 ≤ fan_of bsize format
fan_wide bsize F size = let low = (block_bounds bsize size).0 in omega arith
fan_wide bsize V size = let low = (block_bounds bsize size).0 in omega arith

pub growth_exchanged : (bsize : ℕ) (format : Format) (before after : ℕ) → IsBlockSize bsize
    → tree_size (fan_of bsize format) (up after bsize) + growth_given bsize format before after
    ≡ tree_size (fan_of bsize format) (up before bsize) + growth_taken bsize format before after
unfolding growth_given growth_taken
growth_exchanged bsize format before after size =
    let low = (block_bounds bsize size).0 in
    size_is_exchanged (fan_of bsize format) (up before bsize) (up after bsize) (places_grown bsize before (up after bsize)) (fan_wide bsize format size)
    (grown_may bsize before after (omega arith))

-- ---- rows, in blocks of 512 bytes

-- one record more behind 300 full data blocks: the new one, the pointer block over it and the root
longer_by_a_record : growth_taken 512 F 153600 153680 ≡ 3
unfolding growth_taken fresh_count fresh_to fresh_on is_kept any_within levels levels_from
longer_by_a_record = refl

-- 42 full data blocks fill a tree of one level: the pointer block that was its root is kept
higher_by_a_record : growth_taken 512 V 21504 21590 ≡ 3
unfolding growth_taken fresh_count fresh_to fresh_on is_kept any_within levels levels_from
higher_by_a_record = refl

-- a data block that is filled in part is written anew
filled_by_a_record : growth_taken 512 F 100 180 ≡ 1
unfolding growth_taken fresh_count fresh_to fresh_on is_kept any_within levels levels_from
filled_by_a_record = refl

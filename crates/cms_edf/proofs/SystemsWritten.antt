-- The writes of an update, part by part.
use Rattle.std.proofs.Common.{◌≡◌, ℕ, List, ◌++◌, length, take, drop, refl, sym, ◌∙◌, ap, subst, append_assoc}
use Rattle.std.specs.Prelude.{⊤, Result}
use Rattle.cms_journal.specs.declared.event.Failed.{Failed}
use Rattle.cms_model.specs.Settled.{Write}
use Rattle.cms_held.specs.Systems.{Systems, data_writes, leaf_writes, map_piece, nodes_at, system_writes}
use Rattle.cms_world.specs.Seen.{Seen}
use Rattle.cms_edf.specs.declared.block_writes.Target.{Target}
use Rattle.cms_edf.specs.BlockWrites.{Writes}
use Rattle.cms_edf.specs.Doubts.{target_of, directory_writes, map_writes, first_writes}

-- the parts as they are held
abbrev pub parts_in : ℕ → Systems → List Write
parts_in bsize s = directory_writes bsize s.directory s.directory_part s.directory_bytes
    ++ (map_writes bsize s.map s.map_part s.bits ++ first_writes bsize s.directory s.directory_part s.directory_bytes)

-- the parts joined are an update's writes
pub parts_are : (bsize : ℕ) (s : Systems) → parts_in bsize s ≡ system_writes bsize s
parts_are bsize s =
    let data' = data_writes bsize s.directory.leaves s.directory_part.leaves s.directory_bytes in
    let rest = drop 1 data' in
    let nodes = nodes_at bsize s.directory s.directory_part.nodes in
    let map_data = leaf_writes s.map.leaves (map_piece bsize s.bits) s.map_part.leaves in
    let map_nodes = nodes_at bsize s.map s.map_part.nodes in
    let first = take 1 data' in
    append_assoc rest nodes ((map_data ++ map_nodes) ++ first)
    ∙ ap (λ (l : List Write). rest ++ (nodes ++ l)) (append_assoc map_data map_nodes first)

-- the same of what is held, seen as a value
pub parts_held : (v s : Systems) (bsize : ℕ) → v ≡ s → length v.label_bytes ≡ bsize → parts_in bsize v ≡ system_writes (length s.label_bytes) s
parts_held v s bsize is long = parts_are bsize v ∙ ap (λ (n : ℕ). system_writes n v) (sym long) ∙ ap (λ (x : Systems). system_writes (length x.label_bytes) x) is

-- and where they are written
pub target_held : (unit : ℕ) (v s : Systems) (bsize : ℕ) → v ≡ s → length v.label_bytes ≡ bsize → target_of unit s ≡ record { unit = unit; total = v.label.blocks; bsize = bsize }
target_held unit v s bsize is long = rw (sym is, sym long) refl

-- so the parts, written as they are held, are what an update writes
pub held_made : (unit : ℕ) (v s : Systems) (bsize : ℕ) (old new : Seen) (r : Result ⊤ Failed) → v ≡ s → length v.label_bytes ≡ bsize
    → Writes old new (record { unit = unit; total = v.label.blocks; bsize = bsize }) (parts_in bsize v) r
    → Writes old new (target_of unit s) (system_writes (length s.label_bytes) s) r
held_made unit v s bsize old new r is long w =
    subst (λ (t : Target). Writes old new t (system_writes (length s.label_bytes) s) r) (sym (target_held unit v s bsize is long))
    (subst (λ (ws : List Write). Writes old new (record { unit = unit; total = v.label.blocks; bsize = bsize }) ws r) (parts_held v s bsize is long) w)

-- A file that grows is held.
use Rattle.std.proofs.Common.{◌≡◌, ⊎_elim, ℕ, zero, suc, ◌+◌, ◌-◌, ◌*◌, ◌/◌, ◌<◌, ◌≤◌, List, ◌∷◌, ◌++◌, length, take, drop, get_or, All, None, Result, Ok, refl, sym, ◌∙◌, ap, subst, arith, append_assoc, append-nil, mul-le-mul_right}
use Rattle.std.specs.Prelude.{replicate}
use Rattle.std.specs.List.{concat}
use Rattle.std.proofs.lemmas.Bool.{cases_lt}
use Rattle.std.proofs.lemmas.List.{drop-append-le, drop-take, length-drop, length-replicate, length-take-le, take-append-le, take-take, take_all}
use Rattle.std.proofs.Math.Nat.{div-mul-le_self}
use Rattle.cms_names.specs.declared.name.Format.{Format}
use Rattle.cms_names.specs.declared.name.Format.TheVariants.{F, V}
use Rattle.cms_fields.specs.Entries.{pointer_size}
use Rattle.cms_fields.specs.Numbers.{up}
use Rattle.cms_model.specs.Lists.{cut}
use Rattle.cms_model.specs.Built.{ReadsAs}
use Rattle.cms_model.specs.Records.{Fits, records_of, stored}
use Rattle.cms_model.specs.declared.fault.VarFault.{VarFault}
use Rattle.cms_model.specs.Sizes.{levels}
use Rattle.cms_model.specs.Trees.{Form, Image, bytes_at, form_of, tree}
use Rattle.cms_model.proofs.Quotients.{up_spec}
use Rattle.cms_model.proofs.Records.{cut_stored}
use Rattle.cms_model.proofs.TreeFrame.{tree_keeps}
use Rattle.cms_tree.specs.Builds.{root_of}
use Rattle.cms_tree.proofs.BuiltTrees.{fan_wide}
use Rattle.cms_tree.proofs.Own.{in_at}
use Rattle.cms_records.proofs.RecordsBehind.{varying_extends}
use Rattle.cms_held.specs.Drafts.{HasData, data_block, data_write, draft_writes, filled, stored_on}
use Rattle.cms_held.specs.Growths.{GrownHolds, form_on, places_behind}
use Rattle.cms_held.specs.SharedBlocks.{AreLong}
use Rattle.cms_held.specs.HeldVolumes.{size_of}
use Rattle.cms_held.specs.SharedTrees.{IsStanding, StandsByLevels}
use Rattle.cms_held.proofs.BlockBytes.{all_long, leaf_long, piece_by_place}
use Rattle.cms_held.proofs.DraftBlocks.{data_among, has_among}
use Rattle.cms_held.proofs.Drafted.{data_bytes, fan_is}
use Rattle.cms_held.proofs.Grown.{grown_is_shared}
use Rattle.cms_held.proofs.SharedTrees.{levels_are_read, shared_tree_stands}

-- ---- the records

-- pieces that are cut of the first bytes, and records behind them
cut_more : (count size : ℕ) (bytes rest : List ℕ) (more : List (List ℕ)) → count * size ≤ length bytes → All (Fits F size) more
    → cut (count + length more) size ((take (count * size) bytes ++ concat more) ++ rest) ≡ cut count size bytes ++ more
unfolding cut
cut_more zero size bytes rest more room each =
    let none : 0 * size ≡ 0 = omega arith in
    let e : 0 + length more ≡ length more = omega arith in
    rw (e, none) (cut_stored size more rest each)
cut_more (suc n) size bytes rest more room each =
    let whole : suc n * size ≡ size + n * size = omega arith in
    let e : suc n + length more ≡ suc (n + length more) = omega arith in
    let front = take (suc n * size) bytes in
    let long : length front ≡ suc n * size = length-take-le (suc n * size) bytes room in
    let all = (front ++ concat more) ++ rest in
    let regroup : all ≡ front ++ (concat more ++ rest) = append_assoc front (concat more) rest in
    let first : take size all ≡ take size bytes = ap (take size) regroup ∙ take-append-le size front (concat more ++ rest) (omega arith) ∙ take-take size (suc n * size) bytes (omega arith) in
    let behind : drop size all ≡ (take (n * size) (drop size bytes) ++ concat more) ++ rest =
    ap (drop size) regroup ∙ drop-append-le size front (concat more ++ rest) (omega arith)
    ∙ ap (λ (k : ℕ). drop size (take k bytes) ++ (concat more ++ rest)) whole ∙ ap (λ (l : List ℕ). l ++ (concat more ++ rest)) (drop-take size (n * size) bytes)
    ∙ sym (append_assoc (take (n * size) (drop size bytes)) (concat more) rest) in
    let rest_long = length-drop size bytes in
    ap (λ (k : ℕ). cut k size all) e ∙ ap (λ (l : List ℕ). l ∷ cut (n + length more) size (drop size all)) first
    ∙ ap (λ (l : List ℕ). take size bytes ∷ cut (n + length more) size l) behind
    ∙ ap (λ (l : List (List ℕ)). take size bytes ∷ l) (cut_more n size (drop size bytes) rest more (omega arith) each)

-- records that stand behind those that bytes hold are read with them
records_more : (bsize : ℕ) (format : Format) (size size' count : ℕ) (bytes rest : List ℕ) (records more : List (List ℕ)) → records_of bsize format size count bytes ≡ Ok records
    → size_of format size count records ≤ length bytes → (format ≡ F → size' ≡ size) → All (Fits format size') more → length rest < bsize
    → records_of bsize format size' (count + length more) ((take (size_of format size count records) bytes ++ stored format more) ++ rest) ≡ Ok (records ++ more)
unfolding records_of
records_more bsize F size size' count bytes rest records more is room same each short =
    let e = same refl in
    let own : cut count size bytes ≡ records = same_ok (cut count size bytes) records is in
    let fits : All (Fits F size) more = subst (λ (n : ℕ). All (Fits F n) more) e each in
    ap (λ (n : ℕ). Ok (cut (count + length more) n ((take (count * size) bytes ++ concat more) ++ rest))) e
    ∙ ap Ok (cut_more count size bytes rest more room fits ∙ ap (λ (l : List (List ℕ)). l ++ more) own)
  where
    same_ok : (a b : List (List ℕ)) → ◌≡◌ {A = Result (List (List ℕ)) VarFault} (Ok a) (Ok b) → a ≡ b
    same_ok a b e = cc
records_more bsize V size size' count bytes rest records more is room same each short = (varying_extends bsize size' count bytes rest records more is each short).0

-- ---- the bytes

-- a block that is kept has the bytes that it is to have
kept_block : (bsize size k : ℕ) (image : Image) (leaves behind : List ℕ) → AreLong bsize image leaves → size ≤ length leaves * bsize → 1 ≤ bsize → k < size / bsize
    → image (get_or leaves k 0) ≡ data_block bsize (take size (bytes_at image leaves) ++ behind) k
kept_block bsize size k image leaves behind long room some less =
    let raw = bytes_at image leaves in
    let all = all_long bsize image leaves long in
    let whole : size / bsize * bsize ≤ size = div-mul-le_self size bsize in
    let ends : (k + 1) * bsize ≤ size / bsize * bsize = mul-le-mul_right bsize (let l = less in omega arith) in
    let next : (k + 1) * bsize ≡ k * bsize + bsize = next_multiple k bsize in
    let inside : k < length leaves = below k (length leaves) bsize (omega arith) some in
    let front = take size raw in
    let front_long : length front ≡ size = length-take-le size raw (omega arith) in
    let parts : size ≡ k * bsize + (size - k * bsize) = omega arith in
    let own : take bsize (drop (k * bsize) (front ++ behind)) ≡ image (get_or leaves k 0) =
    ap (take bsize) (drop-append-le (k * bsize) front behind (omega arith))
    ∙ take-append-le bsize (drop (k * bsize) front) behind (let d = length-drop (k * bsize) front in omega arith)
    ∙ ap (λ (n : ℕ). take bsize (drop (k * bsize) (take n raw))) parts
    ∙ ap (take bsize) (drop-take (k * bsize) (size - k * bsize) raw)
    ∙ take-take bsize (size - k * bsize) (drop (k * bsize) raw) (omega arith)
    ∙ ap (λ (n : ℕ). take bsize (drop n raw)) (let z : k * bsize ≡ k * bsize + 0 = omega arith in z)
    ∙ piece_by_place bsize image leaves k 0 bsize long inside (omega arith)
    ∙ take_all bsize (image (get_or leaves k 0)) (let e = leaf_long bsize image leaves k long inside in omega arith) in
    let none : bsize - length (image (get_or leaves k 0)) ≡ 0 = (let e = leaf_long bsize image leaves k long inside in omega arith) in
    sym (ap (filled bsize) own ∙ ap (λ (n : ℕ). image (get_or leaves k 0) ++ replicate n 0) none ∙ append-nil (image (get_or leaves k 0)))
  where
    next_multiple : (a b : ℕ) → (a + 1) * b ≡ a * b + b
    next_multiple a b = grind arith

    below : (k n b : ℕ) → (k + 1) * b ≤ n * b → 1 ≤ b → k < n
    below k n b low some = ⊎_elim
        (λ (less : k < n). less)
        (λ (ge : n ≤ k). absurd (let wide : n * b ≤ k * b = mul-le-mul_right b ge in let e = next_multiple k b in omega arith))
        (cases_lt k n)

-- ---- the file

pub grown_holds : GrownHolds
grown_holds disk total earlier later h old e new marks front mark size more g = record {
  met = reads.met;
  holds = record { met = tree_is; records = records };
  leaves_are = reads.leaves_are;
  blocks_are = reads.blocks_are;
  stands = subst (λ (f : Form). IsStanding f later new) form_same (record { shape = g.tree.shape; stands = stands });
}
  where
    bsize : ℕ
    bsize = disk.bsize

    psize : ℕ
    psize = pointer_size e.format

    kept : ℕ
    kept = size / bsize

    form : Form
    form = form_on bsize psize total

    bytes : List ℕ
    bytes = stored_on e.format front more

    wide : 2 ≤ bsize / psize
    wide = let w = fan_wide bsize psize g.tree.plan.size g.tree.plan.pointer in omega arith

    some : 1 ≤ bsize
    some = let s = g.tree.plan.size in omega arith

    -- its tree
    stands : StandsByLevels form later new
    stands = shared_tree_stands form earlier later (places_behind kept (length new.leaves)) old new wide g.tree.shape g.tree.stands
        (grown_is_shared bsize psize total earlier later old new marks kept front.nodes mark bytes g.tree)

    reads : ReadsAs form later (levels (bsize / psize) (length new.leaves)) None 0 (root_of new.leaves new.pointers) new.leaves new.pointers
    reads = levels_are_read form later None 0 new wide g.tree.shape g.data_allowed g.nodes_allowed stands

    form_same : form ≡ form_of bsize total e.format
    form_same = rw (fan_is bsize e.format) refl

    levels_is : levels (bsize / psize) (length new.leaves) ≡ e.levels
    levels_is = ap (λ (f : ℕ). levels f (length new.leaves)) (fan_is bsize e.format) ∙ sym g.levels_are

    tree_is : (holder : ℕ) → tree (form_of bsize total e.format) later e.levels None holder e.root e.blocks ≡ Ok reads.met
    tree_is holder = rw (← form_same, ← levels_is, g.root, g.blocks)
        (tree_keeps form later later (levels (bsize / psize) (length new.leaves)) None 0 holder (root_of new.leaves new.pointers) (length new.leaves) reads.met reads.is (λ n is. refl))

    -- its bytes
    has_data : HasData later bsize new.leaves bytes
    has_data k less = ⊎_elim
        (λ (low : k < kept).
        let inside : k < length old.leaves = (let a = g.tree.keeps.kept_old in omega arith) in
        ap later (g.tree.keeps.leaves k low) ∙ sym (g.same (get_or old.leaves k 0) (in_at old.leaves k inside))
        ∙ kept_block bsize size k earlier old.leaves (stored e.format more) g.long g.size_room some low
        ∙ ap (λ (l : List ℕ). data_block bsize (l ++ stored e.format more) k) (sym g.front_is))
        (λ (high : kept ≤ k).
        has_among later (draft_writes bsize psize new.leaves marks new.pointers kept front.nodes bytes (length new.leaves)) (data_write bsize new.leaves bytes k) g.tree.has
        (data_among bsize psize new.leaves marks new.pointers kept front.nodes bytes (length new.leaves) k high less))
        (cases_lt k kept)

    tight : (length bytes ≤ up (length bytes) bsize * bsize) × (up (length bytes) bsize * bsize < length bytes + bsize)
    tight = up_spec (length bytes) bsize some

    same_room : length new.leaves * bsize ≡ up (length bytes) bsize * bsize
    same_room = ap (λ (m : ℕ). m * bsize) g.leaves_are

    rest : List ℕ
    rest = replicate (length new.leaves * bsize - length bytes) 0

    short : length rest < bsize
    short = let long = length-replicate {A = ℕ} (length new.leaves * bsize - length bytes) 0 in let a = tight.1 in let b = same_room in let c = tight.0 in omega arith

    whole : bytes_at later new.leaves ≡ bytes ++ rest
    whole = data_bytes later bsize new.leaves bytes (let a = tight.0 in let b = same_room in omega arith) has_data

    -- its records
    old_bytes : List ℕ
    old_bytes = bytes_at earlier old.leaves

    old_records : records_of bsize e.format h.entry.length h.entry.count old_bytes ≡ Ok h.records
    old_records = ap (λ (f : Format). records_of bsize f h.entry.length h.entry.count old_bytes) g.format_is
        ∙ ap (λ (l : List ℕ). records_of bsize h.entry.format h.entry.length h.entry.count (bytes_at earlier l)) (sym g.leaves_is) ∙ g.holds.records

    size_is : size ≡ size_of e.format h.entry.length h.entry.count h.records
    size_is = g.size_is ∙ ap (λ (f : Format). size_of f h.entry.length h.entry.count h.records) (sym g.format_is)

    bytes_are : bytes ≡ take (size_of e.format h.entry.length h.entry.count h.records) old_bytes ++ stored e.format more
    bytes_are = ap (λ (l : List ℕ). l ++ stored e.format more) (g.front_is ∙ ap (λ (n : ℕ). take n old_bytes) size_is)

    records : records_of bsize e.format e.length e.count (bytes_at later reads.met.leaves) ≡ Ok (h.records ++ more)
    records = ap (λ (l : List ℕ). records_of bsize e.format e.length e.count (bytes_at later l)) reads.leaves_are
        ∙ ap (records_of bsize e.format e.length e.count) (whole ∙ ap (λ (l : List ℕ). l ++ rest) bytes_are)
        ∙ ap (λ (n : ℕ). records_of bsize e.format e.length n ((take (size_of e.format h.entry.length h.entry.count h.records) old_bytes ++ stored e.format more) ++ rest)) g.count_is
        ∙ records_more bsize e.format h.entry.length e.length h.entry.count old_bytes rest h.records more old_records
        (let a = all_long bsize earlier old.leaves g.long in let b = size_is in let c = g.size_room in omega arith) g.length_is g.each short

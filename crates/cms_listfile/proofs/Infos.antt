-- What a volume that is held tells of its files is what is told of the minidisk's.
use Rattle.std.proofs.Common.{◌≡◌, ◌∙◌, ◌≤◌, ◌*◌, ◌-◌, drop, ℕ, suc, List, [], ◌∷◌, length, map, slice_get, Some, Ok, refl, sym, ap, subst, arith}
use Rattle.cms_journal.proofs.Sizes.{block_bounds}
use Rattle.cms_fields.specs.declared.entry.Entry.{Entry}
use Rattle.cms_model.specs.Lists.{cut}
use Rattle.cms_model.specs.LawsSizes.{IsWhole}
use Rattle.cms_model.specs.Minidisks.{File, Minidisk}
use Rattle.cms_model.specs.Trees.{Image, Met, bytes_at}
use Rattle.cms_model.specs.Volumes.{Disk, Opened, IsOpened, contents_in, file_trees, files_of, minidisk_of}
use Rattle.cms_model.proofs.FilesRead.{IsRead, each_read}
use Rattle.cms_model.proofs.FileSizes.{AllFit, EntryFits, entries_fit, file_of, is_filled, stored_fills}
use Rattle.cms_model.proofs.InOrder.{in_order}
use Rattle.cms_model.proofs.OpenedVolumes.{open_ok}
use Rattle.cms_held.specs.HeldAs.{AreHeld}
use Rattle.cms_held.specs.HeldVolumes.{HeldFile}
use Rattle.cms_held.specs.LawsHeld.{IsFileOf}
use Rattle.cms_edf.specs.FilesTold as asked
use Rattle.cms_edf.specs.declared.held.FileInfo.{FileInfo}
use Rattle.cms_disk.specs.Disks.{Accessed, StandsIn}
use Rattle.cms_disk.proofs.FilesFound.{stands_tells}
use Rattle.cms_listfile.specs.Lines.{data_blocks, info_of}

-- ---- data blocks

abbrev blocks_in : List HeldFile → List ℕ
blocks_in hs = map (λ (h : HeldFile). h.entry.blocks) hs

abbrev blocks_of : ℕ → List File → List ℕ
blocks_of bsize fs = map (data_blocks bsize) fs

blocks_read : (disk : Disk) (image : Image) (total : ℕ) (dirs : List ℕ) (number : ℕ) (es : List Entry) (ms : List Met) (cs : List (List (List ℕ))) (hs : List HeldFile)
    → IsWhole disk image → total ≤ disk.count → AllFit disk.bsize es → AreHeld es ms cs hs → file_trees disk.bsize total image dirs number es ≡ Ok ms
    → contents_in disk.bsize image number es ms ≡ Ok cs → blocks_in hs ≡ blocks_of disk.bsize (files_of es cs)
unfolding files_of
blocks_read disk image total dirs number es ms cs hs whole top fits are t c =
    each_read disk total image dirs (λ es ms cs. AllFit disk.bsize es → (hs : List HeldFile) → AreHeld es ms cs hs → blocks_in hs ≡ blocks_of disk.bsize (files_of es cs))
    (λ fits hs are. none hs are) (λ holder e m rs es ms cs read rest fits hs are. one holder e m rs es ms cs read fits.0 (λ others held. rest fits.1 others held) hs are)
    number es ms cs t c fits hs are
  where
    none : (hs : List HeldFile) → AreHeld [] [] [] hs → blocks_in hs ≡ []
    none [] are = refl
    none (h ∷ hs) are = absurd are

    one : (holder : ℕ) (e : Entry) (m : Met) (rs : List (List ℕ)) (es : List Entry) (ms : List Met) (cs : List (List (List ℕ))) → IsRead disk total image holder e m rs → EntryFits disk.bsize e
        → ((others : List HeldFile) → AreHeld es ms cs others → blocks_in others ≡ blocks_of disk.bsize (files_of es cs)) → (hs : List HeldFile) → AreHeld (e ∷ es) (m ∷ ms) (rs ∷ cs) hs
        → blocks_in hs ≡ blocks_of disk.bsize (files_of (e ∷ es) (rs ∷ cs))
    one holder e m rs es ms cs read fit deeper [] are = absurd are
    one holder e m rs es ms cs read fit deeper (h ∷ hs) are =
        let low = (block_bounds disk.bsize whole.size).0 in
        let f = is_filled disk image total holder e m whole top fit read.met in
        let long : length (bytes_at image m.leaves) ≡ e.blocks * disk.bsize = f.long ∙ ap (λ (n : ℕ). n * disk.bsize) f.leaves in
        let filled = stored_fills e.format disk.bsize e.length e.blocks e.count (bytes_at image m.leaves) rs (omega arith) read.records long f.counted in
        let here : h.entry.blocks ≡ data_blocks disk.bsize (file_of e rs) = ap (λ (x : Entry). x.blocks) are.0.entry_is ∙ sym filled in
        ap (λ (n : ℕ). n ∷ blocks_in hs) here ∙ ap (λ (ns : List ℕ). data_blocks disk.bsize (file_of e rs) ∷ ns) (deeper hs are.1)

blocks_told : (image : Image) (d : Accessed) (m : Minidisk) → StandsIn image d m → blocks_in d.volume.files ≡ blocks_of m.bsize m.files
unfolding minidisk_of
blocks_told image d m s =
    subst (λ (x : Minidisk). blocks_in d.volume.files ≡ blocks_of x.bsize x.files) (sym s.minidisk_is)
    (blocks_read disk image v.label.blocks v.directory_met.leaves 2 v.entries v.mets v.contents d.volume.files s.whole (in_order disk image v s.opens).size.1 fits s.volume_is.files_are
    o.mets o.contents)
  where
    disk : Disk
    disk = d.volume.disk

    v : Opened
    v = s.opened

    o : IsOpened disk image v
    o = open_ok disk image v s.opens

    fits : AllFit disk.bsize v.entries
    fits = (entries_fit disk.bsize 2 (cut (v.directory.count - 2) 64 (drop 128 (bytes_at image v.directory_met.leaves))) v.entries o.system.entries).0

-- ---- what is told of a file

infos_same : (bsize : ℕ) (image : Image) (hs : List HeldFile) (fs : List File) → length hs ≡ length fs
    → ((k : ℕ) (h : HeldFile) (f : File) → slice_get hs k ≡ Some h → slice_get fs k ≡ Some f → IsFileOf bsize image h f) → blocks_in hs ≡ blocks_of bsize fs
    → map asked.info_of hs ≡ map (info_of bsize) fs
infos_same bsize image [] [] long each blocks = refl
infos_same bsize image [] (f ∷ fs) long each blocks = absurd (omega (arith, long))
infos_same bsize image (h ∷ hs) [] long each blocks = absurd (omega (arith, long))
infos_same bsize image (h ∷ hs) (f ∷ fs) long each blocks =
    let is = each 0 h f refl refl in
    let first : h.entry.blocks ≡ data_blocks bsize f = cc blocks in
    let more : blocks_in hs ≡ blocks_of bsize fs = cc blocks in
    let rest = infos_same bsize image hs fs (omega (arith, long)) (λ k x y is_x is_y. each (suc k) x y is_x is_y) more in
    ap (λ (i : FileInfo). i ∷ map asked.info_of hs) (one is first) ∙ ap (λ (l : List FileInfo). info_of bsize f ∷ l) rest
  where
    one : IsFileOf bsize image h f → h.entry.blocks ≡ data_blocks bsize f → asked.info_of h ≡ info_of bsize f
    one is blocks =
        let name = is.name_is in
        let number = is.number_is in
        let format = is.format_is in
        let size = is.length_is in
        let stamp = is.stamp_is in
        let count = is.count_is in
        rw (name, number, format, size, stamp, count, blocks) refl

pub infos_told : (image : Image) (d : Accessed) (m : Minidisk) → StandsIn image d m → asked.infos_in d.volume ≡ map (info_of m.bsize) m.files
infos_told image d m s =
    let held = (stands_tells image d m s).held in
    infos_same m.bsize image d.volume.files m.files held.count_is held.files_are (blocks_told image d m s)

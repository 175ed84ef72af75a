-- What is shown file by file of the files of a volume whose trees and records were read.
use Rattle.std.proofs.Common.{◌≡◌, ℕ, ◌+◌, List, [], ◌∷◌, None, Ok, sym, subst}
use Rattle.cms_fields.specs.declared.entry.Entry.{Entry}
use Rattle.cms_model.specs.Trees.{Image, Met, form_of, tree, bytes_at}
use Rattle.cms_model.specs.Records.{records_of}
use Rattle.cms_model.specs.Volumes.{Disk, blamed, holder_of, file_trees, contents_in}
use Rattle.cms_model.specs.declared.fault.OpenFault.TheVariants as failed
use Rattle.cms_model.proofs.Results.{ok_same, bind_then}
use Rattle.cms_model.proofs.OpenedVolumes.{blamed_ok}

-- what a file's tree and its records are, where both were read
pub record IsRead (disk : Disk) (total : ℕ) (image : Image) (holder : ℕ) (e : Entry) (m : Met) (rs : List (List ℕ)) : Type 0 where
  pub met : tree (form_of disk.bsize total e.format) image e.levels None holder e.root e.blocks ≡ Ok m
  pub records : records_of disk.bsize e.format e.length e.count (bytes_at image m.leaves) ≡ Ok rs

-- what holds of no files, and of a file before others of which it holds, holds of all files that were read
pub each_read : (disk : Disk) (total : ℕ) (image : Image) (dirs : List ℕ) (P : List Entry → List Met → List (List (List ℕ)) → Type 0) → P [] [] []
    → ((holder : ℕ) (e : Entry) (m : Met) (rs : List (List ℕ)) (es : List Entry) (ms : List Met) (cs : List (List (List ℕ))) → IsRead disk total image holder e m rs → P es ms cs
    → P (e ∷ es) (m ∷ ms) (rs ∷ cs))
    → (number : ℕ) (es : List Entry) (ms : List Met) (cs : List (List (List ℕ))) → file_trees disk.bsize total image dirs number es ≡ Ok ms → contents_in disk.bsize image number es ms ≡ Ok cs
    → P es ms cs
unfolding file_trees contents_in
each_read disk total image dirs P none one number [] ms cs t c =
    subst (P [] ms) (ok_same [] cs c) (subst (λ (l : List Met). P [] l []) (ok_same [] ms t) none)
each_read disk total image dirs P none one number (e ∷ es) ms cs t c =
    let holder = holder_of disk.bsize dirs number in
    bind_then (tree (form_of disk.bsize total e.format) image e.levels None holder e.root e.blocks) _ ms t (λ m is_m t1.
    bind_then (file_trees disk.bsize total image dirs (number + 1) es) _ ms t1 (λ more is_more t2.
    let is : m ∷ more ≡ ms = ok_same (m ∷ more) ms t2 in
    let c' = subst (λ (l : List Met). contents_in disk.bsize image number (e ∷ es) l ≡ Ok cs) (sym is) c in
    bind_then (blamed (failed.Var number) (records_of disk.bsize e.format e.length e.count (bytes_at image m.leaves))) _ cs c' (λ rs is_rs c1.
    bind_then (contents_in disk.bsize image (number + 1) es more) _ cs c1 (λ rest is_rest c2.
    let read : IsRead disk total image holder e m rs = record {
      met = is_m;
      records =
          blamed_ok (failed.Var number) (records_of disk.bsize e.format e.length e.count (bytes_at image m.leaves)) rs is_rs;
    } in
    let whole = one holder e m rs es more rest read (each_read disk total image dirs P none one (number + 1) es more rest is_more is_rest) in
    subst (λ (l : List (List (List ℕ))). P (e ∷ es) ms l) (ok_same (rs ∷ rest) cs c2) (subst (λ (l : List Met). P (e ∷ es) l (rs ∷ rest)) is whole)))))

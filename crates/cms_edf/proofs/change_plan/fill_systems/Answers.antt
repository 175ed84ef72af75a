use Rattle.std.proofs.Common.{rules, arith, ◌≡◌, ◌*◌, ◌/◌, ◌<◌, ℕ, List, All, map, get_or, ap, sym, ◌∙◌, length, refl, subst}
use Rattle.std.specs.List.{concat}
use Rattle.cms_fields.specs.Labels.{with_label}
use Rattle.cms_fields.specs.declared.label.Label.{Label}
use Rattle.cms_journal.proofs.Sizes.{block_bounds}
use Rattle.cms_model.specs.Sizes.{pointer_count}
use Rattle.cms_tree.proofs.Own.{in_at}
use Rattle.cms_held.proofs.KeptTrees.{nodes_are}
use Rattle.cms_held.specs.HeldVolumes.{Held}
use Rattle.cms_held.specs.Kept.{Keeps}
use Rattle.cms_held.specs.Renewals.{label_for}
use Rattle.cms_held.specs.Systems.{Systems, directory_piece}
use Rattle.cms_edf.specs.Doubts.{IsReady}
use Rattle.cms_edf.proofs.NodesKept.{all_at}
use Rattle.cms_edf.proofs.Planned.{allotted_bits, directory_may, is_ready}
use Rattle.cms_model.specs.DirectoryParts.{directory_count}
use Rattle.cms_edf.proofs.change_plan.fill_systems.Goals as goal

pub label_for-requires-clause-count : goal.label_for-requires-clause-count
label_for-requires-clause-count c =
    let v = c.args.held.now.volume in
    let kept : Keeps v = subst (λ (h : Held). Keeps h.volume) c.held.view_is c.held.invariant.kept in
    allotted_bits v c.args.exchange.now c.args.allotment c.requires.allotted ∙ (kept.bits_are ∙ sym (ap (λ (h : Held). h.volume.label.blocks) c.held.view_is))

pub invariant_of-result : goal.invariant_of-result
invariant_of-result c =
    let v = c.args.held.now.volume in
    let a = c.args.allotment in
    let s : Systems = record {
      label = c.in-Ok-relabel.new.label;
      label_bytes = c.in-Ok-relabel.new.bytes.items;
      directory = a.directory.tree;
      directory_part = a.directory.part;
      directory_bytes = c.in-Ok.directory_bytes.items;
      map = a.map_tree;
      map_part = a.map_part;
      bits = a.map;
    } in
    let size = ap (λ (h : Held). h.volume.disk.bsize) c.held.view_is in
    let total = ap (λ (h : Held). h.volume.label.blocks) c.held.view_is in
    let places : c.deref.result.now ≡ a.directory.part.leaves = search rules in
    let label = c.in-Ok-relabel.ensures.label ∙ c.label_for.ensures.label in
    subst (λ (n : ℕ). IsReady n s) (sym size)
    (is_ready v c.args.exchange.now a c.args.entries.now s
    (record {
      kept = subst (λ (h : Held). Keeps h.volume) c.held.view_is c.held.invariant.kept;
      few = c.requires.few;
      files = c.requires.files;
      enough = c.requires.enough;
      allotted = c.requires.allotted;
      label = ap (λ (l : Label). l.blocks) label ∙ total;
      label_long = c.in-Ok-relabel.ensures.long;
      directory_is = refl;
      directory_part_is = refl;
      map_is = refl;
      map_part_is = refl;
      directory_long = c.in-Ok.ensures.long ∙ (ap (λ (l : List ℕ). length l * c.held.inside.bsize) places ∙ ap (λ (n : ℕ). length a.directory.part.leaves * n) size);
    }))

-- the data blocks of the directory that are written are some of it
pub directory_bytes-requires-clause-at : goal.directory_bytes-requires-clause-at
directory_bytes-requires-clause-at c =
    let v = c.args.held.now.volume in
    let a = c.args.allotment in
    let written = a.directory.part.leaves in
    let places : c.deref.result.now ≡ written = search rules in
    let kept : Keeps v = subst (λ (h : Held). Keeps h.volume) c.held.view_is c.held.invariant.kept in
    let may = directory_may v c.args.exchange.now a c.args.entries.now kept c.requires.allotted c.requires.files c.requires.enough in
    subst (All (λ j. j < length a.directory.tree.leaves)) (sym places) (all_at (λ j. j < length a.directory.tree.leaves) written (λ j less. may.within (get_or written j 0) (in_at written j less)))

pub returns : goal.returns
returns c =
    let v = c.args.held.now.volume in
    let a = c.args.allotment in
    let s : Systems = record {
      label = c.in-Ok-relabel.new.label;
      label_bytes = c.in-Ok-relabel.new.bytes.items;
      directory = a.directory.tree;
      directory_part = a.directory.part;
      directory_bytes = c.in-Ok.directory_bytes.items;
      map = a.map_tree;
      map_part = a.map_part;
      bits = a.map;
    } in
    let size : c.held.inside.bsize ≡ v.disk.bsize = ap (λ (h : Held). h.volume.disk.bsize) c.held.view_is in
    let old : c.held.inside.label ≡ v.label = ap (λ (h : Held). h.volume.label) c.held.view_is in
    let places : c.deref.result.now ≡ a.directory.part.leaves = search rules in
    record {
      directory_is = refl;
      directory_part_is = refl;
      map_is = refl;
      map_part_is = refl;
      bits_are = refl;
      systems = record {
        label = c.in-Ok-relabel.ensures.label ∙ (c.label_for.ensures.label ∙ ap (λ (l : Label). label_for l a.map) old);
        label_bytes = c.in-Ok-relabel.ensures.bytes ∙ ap (λ (l : Label). with_label l v.label_bytes) (sym c.in-Ok-relabel.ensures.label);
        label_long = c.in-Ok-relabel.ensures.long;
        directory_bytes = c.in-Ok.ensures.bytes s refl refl ∙ (λ i. concat (map (directory_piece (size i) s c.args.entries.now c.args.stamp.now) (places i)));
        back = c.requires.back;
      };
    }

pub directory_bytes-requires-clause-stamp : goal.directory_bytes-requires-clause-stamp
directory_bytes-requires-clause-stamp c = c.requires.stamp

pub directory_bytes-requires-clause-few : goal.directory_bytes-requires-clause-few
directory_bytes-requires-clause-few c = c.requires.few

pub directory_bytes-requires-clause-each : goal.directory_bytes-requires-clause-each
directory_bytes-requires-clause-each c = c.requires.each

pub directory_bytes-requires-clause-back : goal.directory_bytes-requires-clause-back
directory_bytes-requires-clause-back c = c.requires.back

pub directory_bytes-requires-clause-directory : goal.directory_bytes-requires-clause-directory
directory_bytes-requires-clause-directory c =
    let size = ap (λ (h : Held). h.volume.disk.bsize) c.held.view_is in
    c.requires.allotted.directory_is ∙ (λ i. directory_count (sym size i) (c.requires.files i))

pub directory_bytes-requires-clause-map_few : goal.directory_bytes-requires-clause-map_few
directory_bytes-requires-clause-map_few c = c.requires.map_few

pub label_for-requires-clause-origin : goal.label_for-requires-clause-origin
label_for-requires-clause-origin c = c.held.invariant.kept.origin_high

pub directory_bytes-requires-clause-nodes : goal.directory_bytes-requires-clause-nodes
directory_bytes-requires-clause-nodes c =
    let v = c.args.held.now.volume in
    let d = c.args.allotment.directory in
    let kept : Keeps v = subst (λ (h : Held). Keeps h.volume) c.held.view_is c.held.invariant.kept in
    let low = (block_bounds v.disk.bsize kept.sized).0 in
    let size = ap (λ (h : Held). h.volume.disk.bsize) c.held.view_is in
    nodes_are (v.disk.bsize / 4) d.part.leaves v.directory d.tree (omega (arith, low)) c.requires.allotted.directory ∙ ap (λ (n : ℕ). pointer_count (n / 4) (length d.tree.leaves)) (sym size)

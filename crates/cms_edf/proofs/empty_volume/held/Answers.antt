-- The empty volume is that of its systems.
use Rattle.std.proofs.Common.{◌≡◌, ◌∙◌, [], List, ap, sym, subst, length, refl}
use Rattle.std.specs.Map.{values_of}
use Rattle.indexmap.specs.IndexMap.{values}
use Rattle.cms_held.specs.HeldVolumes.{HeldFile, HeldTree}
use Rattle.cms_held.specs.Kept.{IsKept}
use Rattle.cms_held.specs.Systems.{Systems}
use Rattle.cms_edf.specs.NewDirectories.{GoesOn, NewDirectory, directory_in}
use Rattle.cms_edf.proofs.empty_volume.held.Goals as goal

pub put_into-directory_nodes-requires-clause-goes : goal.put_into-directory_nodes-requires-clause-goes
put_into-directory_nodes-requires-clause-goes c =
    let systems = c.systems.view_is in
    subst (λ (d : NewDirectory). GoesOn c.args.leaves.items d) (λ k. directory_in (sym systems k)) c.requires.goes

pub invariant_of-result : goal.invariant_of-result
invariant_of-result c =
    let i = c.systems.inside in
    let none : values c.args.files ≡ [] = ap values_of c.requires.empty in
    let new = subst (λ (s : Systems). IsKept c.args.bsize c.args.blocks s.label (length s.label_bytes) s.directory s.map s.bits []) (sym c.systems.view_is) c.requires.kept in
    let put : HeldTree = record { leaves = c.put_into-directory_nodes.new.held.items; pointers = c.put_into-directory_nodes.result.items } in
    let is : put ≡ i.directory.tree = (λ k. record { leaves = c.put_into-directory_nodes.ensures.leaves k; pointers = c.put_into-directory_nodes.ensures.pointers k }) in
    let there = subst (λ (t : HeldTree). IsKept c.args.bsize c.args.blocks i.label (length i.label_bytes.items) t i.map_tree i.map []) (sym is) new in
    record {
      named = rw c.requires.empty refl;
      kept = subst (λ (fs : List HeldFile). IsKept c.args.bsize c.args.blocks i.label (length i.label_bytes.items) put i.map_tree i.map fs) (sym none) there;
    }

pub returns : goal.returns
returns c =
    let none : values c.args.files ≡ [] = ap values_of c.requires.empty in
    (λ k. record {
      unit = c.args.unit;
      disk = record { bsize = c.args.bsize; count = c.args.blocks };
      label = ap (λ (s : Systems). s.label) c.systems.view_is k;
      label_bytes = ap (λ (s : Systems). s.label_bytes) c.systems.view_is k;
      directory = record {
        leaves = (c.put_into-directory_nodes.ensures.leaves ∙ ap (λ (s : Systems). s.directory.leaves) c.systems.view_is) k;
        pointers = (c.put_into-directory_nodes.ensures.pointers ∙ ap (λ (s : Systems). s.directory.pointers) c.systems.view_is) k;
      };
      map = ap (λ (s : Systems). s.map) c.systems.view_is k;
      bits = ap (λ (s : Systems). s.bits) c.systems.view_is k;
      files = none k;
      lost = 0;
    })

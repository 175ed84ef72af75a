use Rattle.std.proofs.Common.{◌≡◌, ℕ, List, [], length, position, refl, sym, ◌∙◌, ap, subst, rules, arith}
use Rattle.std.specs.Prelude.{vec_len}
use Rattle.indexmap.specs.IndexMap.{values}
use Rattle.cms_model.specs.Minidisks.{same_name}
use Rattle.cms_held.specs.HeldVolumes.{HeldFile, HeldTree, Held, names_in}
use Rattle.cms_held.specs.Kept.{IsKept, Keeps}
use Rattle.cms_held.specs.Renewals.{Edit, renewed}
use Rattle.cms_held.specs.Systems.{Systems}
use Rattle.cms_edf.specs.FileDrafts.{list_with}
use Rattle.cms_edf.specs.NewDirectories.{GoesOn, NewDirectory, directory_in}
use Rattle.cms_edf.proofs.held.Held.renew_with.Goals as goal

-- the volume that is renewed is kept
pub invariant_of-self : goal.invariant_of-self
invariant_of-self c =
    let i = c.self.inside in
    let file = c.args.file in
    let fs = list_with (values i.files) (position (same_name file.entry.name) (names_in (values i.files))) file in
    let edit : Edit = record { files = fs; made = []; given = []; taken = [] } in
    let kept = subst (λ (h : Held). (edit : Edit) → edit.files ≡ list_with h.volume.files (position (same_name file.entry.name) (names_in h.volume.files)) file
    → Keeps (renewed h.volume edit c.args.systems))
    (sym c.self.view_is) c.requires.kept in
    let new = subst (λ (s : Systems). IsKept i.bsize i.blocks s.label (length s.label_bytes) s.directory s.map s.bits fs) (sym c.systems.view_is) (kept edit refl) in
    let put : HeldTree = record { leaves = c.put_into.new.held.items; pointers = c.put_into.result.items } in
    let is : put ≡ c.systems.inside.directory.tree = (λ k. record { leaves = c.put_into.ensures.leaves k; pointers = c.put_into.ensures.pointers k }) in
    let there = subst (λ (t : HeldTree). IsKept i.bsize i.blocks c.systems.inside.label (length c.systems.inside.label_bytes.items) t c.systems.inside.map_tree c.systems.inside.map fs) (sym is) new in
    record {
      named = c.put_file.ensures.named;
      kept = subst (λ (l : List HeldFile). IsKept i.bsize i.blocks c.systems.inside.label (length c.systems.inside.label_bytes.items) put c.systems.inside.map_tree c.systems.inside.map l) (sym c.put_file.ensures.files) there;
    }

-- it is the one with the file
pub returns : goal.returns
returns c = λ edit is.
    let name = c.args.file.entry.name in
    let files = c.put_file.ensures.files
    ∙ (ap (λ (h : Held). list_with h.volume.files (position (same_name name) (names_in h.volume.files)) c.args.file) c.self.view_is ∙ sym is) in
    (λ k. record {
      unit = ap (λ (h : Held). h.volume.unit) c.self.view_is k;
      disk = ap (λ (h : Held). h.volume.disk) c.self.view_is k;
      label = ap (λ (s : Systems). s.label) c.systems.view_is k;
      label_bytes = ap (λ (s : Systems). s.label_bytes) c.systems.view_is k;
      directory = record {
        leaves = (c.put_into.ensures.leaves ∙ ap (λ (s : Systems). s.directory.leaves) c.systems.view_is) k;
        pointers = (c.put_into.ensures.pointers ∙ ap (λ (s : Systems). s.directory.pointers) c.systems.view_is) k;
      };
      map = ap (λ (s : Systems). s.map) c.systems.view_is k;
      bits = ap (λ (s : Systems). s.bits) c.systems.view_is k;
      files = files k;
      lost = ap (λ (h : Held). h.volume.lost) c.self.view_is k;
    })

pub put_into-requires-clause-goes : goal.put_into-requires-clause-goes
put_into-requires-clause-goes c =
    let held = ap (λ (h : Held). h.volume.directory.leaves) c.self.view_is in
    let systems = c.systems.view_is in
    subst (λ (d : NewDirectory). GoesOn c.self.inside.directory.items d) (λ k. directory_in (sym systems k))
    (subst (λ (l : List ℕ). GoesOn l (directory_in c.args.systems)) (sym held) c.requires.goes)

pub put_into-requires-clause-room : goal.put_into-requires-clause-room
put_into-requires-clause-room c =
    let spare = ap (λ (h : Held). h.spare) c.self.view_is in
    let held = ap (λ (h : Held). length h.volume.directory.leaves) c.self.view_is in
    let long = ap (λ (s : Systems). length s.directory.leaves) c.systems.view_is in
    let few = c.requires.goes.few in
    let room = c.requires.room in
    let own : vec_len c.self.inside.directory ≡ length c.self.inside.directory.items = search rules in
    omega (arith, spare, held, long, few, room, own)

pub put_file-requires-clause-room : goal.put_file-requires-clause-room
put_file-requires-clause-room c =
    let spare = ap (λ (h : Held). h.spare) c.self.view_is in
    let room = c.requires.room in
    omega (arith, spare, room)

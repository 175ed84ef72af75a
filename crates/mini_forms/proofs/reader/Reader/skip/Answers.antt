use Rattle.std.proofs.Common.{◌≡◌, ◌-◌, ℕ, List, arith, drop, length, subst}
use Rattle.std.proofs.lemmas.List.{length-drop, take_all}
use Rattle.mini_forms.specs.RecordReads.{SkipsFront}
use Rattle.mini_forms.proofs.Skipped.{skips_from}
use Rattle.mini_forms.proofs.reader.Reader.skip.Goals as goal

pub returns : goal.returns
returns c =
    let bytes = c.args.bytes.now in
    let from = c.args.from in
    let b = c.begin.new.self in
    let t = c.skip_front.new.self in
    let long = length-drop from bytes in
    skips_from c.args.self.now b t bytes from c.skip_front.result c.begin.ensures c.requires
    (subst (λ (l : List ℕ). SkipsFront b t l c.skip_front.result) (take_all (length bytes - from) (drop from bytes) (omega arith)) c.skip_front.ensures)

use Rattle.std.proofs.Common.{rules, ◌≡◌, ◌≤◌, ◌<◌, ◌++◌, ◌+◌, List, length, take, refl, arith}
use Rattle.mini_forms.proofs.Skipped.{skips_bytes}
use Rattle.mini_forms.proofs.reader.Reader.skip_within.Goals as goal

pub returns : goal.returns
returns c =
    skips_bytes c.args.self.now _ c.args.size c.args.bytes.now c.min-count.result c.requires.place c.requires.begun (search rules) (search rules)
    (record { place = search rules; bytes_are = search rules; whole = search rules; count = search rules; stored = search rules })

use Rattle.std.proofs.Common.{rules, ◌≡◌, ◌∙◌, ◌≤◌, true, List, length, take, ap, sym, arith}
use Rattle.std.specs.List.{list_all}
use Rattle.std.proofs.lemmas.List.{length-take-le, take-take}
use Rattle.mini_forms.specs.Lines.{is_simple}
use Rattle.mini_forms.proofs.Skipped.{skips_characters}
use Rattle.mini_forms.proofs.reader.Reader.skip_simple.Goals as goal

pub returns : goal.returns
returns c =
    let bytes = c.args.bytes.now in
    let n = c.simple_front-count.result in
    let most = c.min-most.result in
    let here : most ≤ length bytes = search rules in
    let few : n ≤ length (take most bytes) = c.simple_front-count.ensures.few in
    let long = length-take-le most bytes here in
    let less : n ≤ most = omega arith in
    let simple : list_all is_simple (take n bytes) ≡ true = sym (ap (list_all is_simple) (take-take n most bytes less)) ∙ c.simple_front-count.ensures.simple in
    skips_characters c.args.self.now _ c.args.size bytes n c.requires.place c.requires.begun (search rules) simple (search rules)
    (record { place = search rules; bytes_are = search rules; whole = search rules; count = search rules; stored = search rules })

use Rattle.std.proofs.Common.{◌≡◌, ◌∙◌, ℕ, List, Ok, ap, rules, true}
use Rattle.cms_names.specs.Names.{is_part, pattern_of}
use Rattle.cms_copyfile.proofs.FilesFound.{pattern_read, star_read}
use Rattle.cms_copyfile.proofs.named_files.pattern_for.Goals as goal

read_is : (part bytes : List ℕ) → bytes ≡ part → is_part part ≡ true → pattern_of bytes ≡ Ok part
read_is part bytes is fits = ap pattern_of is ∙ pattern_read part fits

pub unwrap-requires : goal.unwrap-requires
unwrap-requires c = let read = c.read.ensures ∙ read_is _ _ c.as_bytes.ensures.value c.as_bytes.ensures.part in rw read (search rules)

pub unwrap-requires-in-None : goal.unwrap-requires-in-None
unwrap-requires-in-None c = let read = c.read-in-None.ensures ∙ star_read in rw read (search rules)

pub returns-in-Some-clause-pattern : goal.returns-in-Some-clause-pattern
returns-in-Some-clause-pattern c =
    let read = c.read.ensures ∙ read_is _ _ c.as_bytes.ensures.value c.as_bytes.ensures.part in
    let is = c.in-Some.is in
    rw is (cc (read, c.unwrap.ensures))

pub returns-in-None-clause-pattern : goal.returns-in-None-clause-pattern
returns-in-None-clause-pattern c =
    let read = c.read-in-None.ensures ∙ star_read in
    let is = c.in-None.is in
    rw is (cc (read, c.unwrap-in-None.ensures))

use Rattle.std.proofs.Common.{◌≡◌, Ok, refl, subst}
use Rattle.cms_cards.specs.Cards.{disk_by}
use Rattle.cms_cards.specs.Lines.{disk_line}
use Rattle.cms_cards.specs.declared.line.DiskLine.{DiskLine}
use Rattle.cms_cards.specs.declared.line.DiskLine.TheVariants.{Dump, Load}
use Rattle.cms_cards.proofs.Deals.{said_fault, said_so}
use Rattle.cms_cards.proofs.disk.run_disk.Goals as goal

pub returns-in-Ok-Dump-clause-acts : goal.returns-in-Ok-Dump-clause-acts
returns-in-Ok-Dump-clause-acts g c =
    let words = c.args.words.now in
    let decks = c.args.reader.now in
    let x = c.in-Ok-Dump in
    said_so _ _ decks words (λ s line. disk_by s decks words line) (disk_line words) (Dump x.input) c.dump.result _
    (subst (λ (l : DiskLine). disk_line words ≡ Ok l) x.field-0-is x.ensures) c.dump.ensures

pub returns-in-Ok-Load-clause-acts : goal.returns-in-Ok-Load-clause-acts
returns-in-Ok-Load-clause-acts g c =
    let words = c.args.words.now in
    let decks = c.args.reader.now in
    let x = c.in-Ok-Load in
    said_so _ _ decks words (λ s line. disk_by s decks words line) (disk_line words) (Load x.mode) c.load.result _
    (subst (λ (l : DiskLine). disk_line words ≡ Ok l) x.field-0-is x.ensures) c.load.ensures.acts

pub returns-in-Err-clause-acts : goal.returns-in-Err-clause-acts
returns-in-Err-clause-acts g c =
    let words = c.args.words.now in
    said_fault _ _ c.args.reader.now words (λ s line. disk_by s c.args.reader.now words line) (disk_line words) c.in-Err.fault c.refuse_command.result c.in-Err.ensures c.refuse_command.ensures refl

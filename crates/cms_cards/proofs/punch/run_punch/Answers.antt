use Rattle.std.proofs.Common.{refl}
use Rattle.cms_cards.specs.Cards.{punch_file}
use Rattle.cms_cards.specs.Lines.{punch_line}
use Rattle.cms_cards.proofs.Deals.{said_fault, said_so}
use Rattle.cms_cards.proofs.punch.run_punch.Goals as goal

pub returns-in-Ok : goal.returns-in-Ok
returns-in-Ok g c =
    let words = c.args.words.now in
    let decks = c.args.reader.now in
    said_so _ _ decks words (λ s line. punch_file s decks words line) (punch_line words) c.in-Ok.line c.punch_file.result _ c.in-Ok.ensures c.punch_file.ensures

pub returns-in-Err : goal.returns-in-Err
returns-in-Err g c =
    let words = c.args.words.now in
    let decks = c.args.reader.now in
    said_fault _ _ decks words (λ s line. punch_file s decks words line) (punch_line words) c.in-Err.fault c.refuse_command.result c.in-Err.ensures c.refuse_command.ensures refl

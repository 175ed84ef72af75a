use Rattle.cms_records.proofs.FirstTold.{first_is_told}
use Rattle.cms_records.proofs.RecordsBehind.{varying_extends}
use Rattle.cms_records.proofs.laws.piece_laws.Goals as goal

pub returns : goal.returns
returns c = record { first = first_is_told; extends = varying_extends }

use Rattle.cms_records.proofs.StoredRecords.{has_begun, has_room}
use Rattle.cms_records.proofs.stored.view_of.Goals as goal

pub new-requires : goal.new-requires
new-requires c = rw c.bytes-bytes.ensures (has_room c.args.file.now c.requires c.in-F.is)

pub of_checked-requires : goal.of_checked-requires
of_checked-requires c = rw c.bytes-bytes.ensures (has_begun c.args.file.now c.requires c.in-V.is)

use Rattle.cms_disk.proofs.FilePut.{sized_so}
use Rattle.cms_disk.proofs.put.shape_of.Goals as goal

pub returns-clause-can : goal.returns-clause-can
returns-clause-can c =
    let s = c.requires.stands in
    rw c.bytes.ensures (record {
      number = s.number_fits;
      stamp = s.stamp_is;
      some = rw s.count_is s.some;
      low = s.length_fits.0;
      high = s.length_fits.1;
      sized = sized_so c.args.file.now c.requires.records s;
    })

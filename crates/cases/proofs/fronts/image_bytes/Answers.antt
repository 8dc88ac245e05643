-- `fronts::image_bytes` meets its contract.
use Rattle.std.proofs.Common.{sym}
use Rattle.cases.proofs.Laws.Rows.{long_image, bytes_padded}
use Rattle.cases.proofs.fronts.image_bytes.Goals as goal

pub returns-then-image-gt-MOST_BYTES : goal.returns-then-image-gt-MOST_BYTES
returns-then-image-gt-MOST_BYTES c = sym (long_image c.args.image.now c.if-image-gt-MOST_BYTES.true)

pub returns : goal.returns
returns c = bytes_padded c.args.image.now c.put_bytes.ensures c.if-image-gt-MOST_BYTES.false

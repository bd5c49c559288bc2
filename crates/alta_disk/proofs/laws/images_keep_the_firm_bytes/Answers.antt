use Rattle.alta_disk.specs.Media.{start, after}
use Rattle.alta_disk.specs.MediaLaws.{firm_after}
use Rattle.alta_disk.proofs.ImageLaws.{image_left, left_image, rooted}
use Rattle.alta_disk.proofs.laws.images_keep_the_firm_bytes.Goals as goal

pub returns : goal.returns
returns c = λ image.
    let w = c.args._disk.now.written in
    let m = after (start w.first.items) w.events.items in
    let fits = firm_after (start w.first.items) w.events.items (w.kept.bytes 0) w.kept.bytes in
    (image_left m.firm m.pending image fits, left_image m.firm m.pending image (rooted w.first.items w.events.items w.kept.sound) fits)

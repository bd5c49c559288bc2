use Rattle.std.proofs.Common.{◌≡◌, [], map, get_or, set, sym, ap, ◌∙◌, arith}
use Rattle.std.proofs.lemmas.List.{map-set, get_or-map, get_or-set_other}
use Rattle.std.proofs.lemmas.List.Elements.{All-set}
use Rattle.std.proofs.lemmas.List.Sums.{sum_by-set}
use Rattle.std.proofs.Math.Seq.{map-set_same}
use Rattle.alta_codec.specs.Rising.{first_from, count_from}
use Rattle.alta_reader.proofs.many.seek_at.Goals as goal

pub returns-clause-moves : goal.returns-clause-moves
returns-clause-moves g c =
    let R = g.R.Reader in let rs = c.args.readers.now in let j = c.args.j in let d = c.index-readers-j.result in let new = c.seek.new.self in
    let within = c.requires.within in let left = sum_by-set R.left rs j new d within in
    record {
      sound = All-set R.sound rs j new c.seek.ensures.sound c.requires.sound;
      moved = record {
        lists = map-set_same R.list rs j new d c.seek.ensures.list;
        alls = map-set_same R.all rs j new d c.seek.ensures.all;
        places = map-set R.location rs j new
            ∙ ap (λ p. set (map R.location rs) j p) (c.seek.ensures.location ∙ ap (λ l. first_from l c.args.to) (sym (get_or-map R.list rs j d [] within)));
        others = λ k e n. get_or-set_other rs j k new e n;
      };
      falls = omega (arith, left, c.seek.ensures.falls);
      steps = omega (arith, left, c.seek.ensures.steps);
    }

pub returns-clause-own : goal.returns-clause-own
returns-clause-own g c =
    let rs = c.args.readers.now in let j = c.args.j in let d = c.index-readers-j.result in let within = c.requires.within in
    let old = get_or rs j d in let new = c.seek.new.self in
    let members = get_or (map g.R.Reader.all rs) j [] in let list = get_or (map g.R.Reader.list rs) j [] in
    let after : g.R.Reader.left new ≡ count_from members (first_from list c.args.to) =
    g.met.R.BackReader.left_is new c.seek.ensures.sound
    ∙ ap (λ a. count_from a (g.R.Reader.location new)) (c.seek.ensures.all ∙ sym (get_or-map g.R.Reader.all rs j d [] within))
    ∙ ap (λ x. count_from members x) (c.seek.ensures.location ∙ ap (λ l. first_from l c.args.to) (sym (get_or-map g.R.Reader.list rs j d [] within))) in
    let before : g.R.Reader.left old ≡ count_from members (get_or (map g.R.Reader.location rs) j 0) =
    g.met.R.BackReader.left_is old (c.requires.sound j d within)
    ∙ ap (λ a. count_from a (g.R.Reader.location old)) (sym (get_or-map g.R.Reader.all rs j d [] within))
    ∙ ap (λ x. count_from members x) (sym (get_or-map g.R.Reader.location rs j d 0 within)) in
    omega (arith, c.seek.ensures.steps, after, before)

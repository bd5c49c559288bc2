use Rattle.std.proofs.Common.{◌≡◌, ◌<◌, Global, map, sym, subst, ap, ◌∙◌, arith}
use Rattle.std.specs.Prelude.{Vec}
use Rattle.alta_codec.specs.declared.location.TheConstants.{TOP}
use Rattle.alta_codec.specs.Rising.{IsRising}
use Rattle.alta_codec.proofs.Places.{place-le_top}
use Rattle.alta_compound.specs.declared.end.EndReader.{EndReader}
use Rattle.alta_lead.specs.Having.{ends_having}
use Rattle.alta_lead.specs.HavingLaws.{having-rises}
use Rattle.alta_lead.proofs.Counting.{live_past}
use Rattle.alta_counts.specs.Walking.{CanWalk}
use Rattle.alta_counts.specs.declared.walk.Asking.TheVariants.{Led}
use Rattle.alta_search.specs.Words.{single_list, single_place}
use Rattle.alta_search.specs.declared.single_reader.SingleReader.{SingleReader}
use Rattle.alta_counts.proofs.CodedReaders.{can_same, led_can}
use Rattle.alta_counts.proofs.tallies.tally_led.Goals as goal

pub returns-then-at-eq-TOP-clause-count : goal.returns-then-at-eq-TOP-clause-count
returns-then-at-eq-TOP-clause-count g c =
    let r = c.args.reader in let E = single_list r.ends.inner in let W = map single_list r.words.items in let N = map single_list r.negated.items in
    sym (live_past (ends_having E W N) c.args.gone.now r.at (having-rises E W N c.requires.sound.rising) (omega (arith, c.loc-at.ensures.location, c.if-at-eq-TOP.true)))

pub by_kind-requires-clause-stand : goal.by_kind-requires-clause-stand
by_kind-requires-clause-stand g c =
    let r = c.args.reader in let E = single_list r.ends.inner in let W = map single_list r.words.items in let N = map single_list r.negated.items in
    let p = c.into_parts-ends in let s = c.requires.sound in let e = c.into_inner.result in
    let rising : IsRising (ends_having E W N) = having-rises E W N s.rising in
    let below : r.at < TOP = omega (arith, place-le_top (ends_having E W N) r.at rising s.stands, c.loc-at.ensures.location, c.if-at-eq-TOP.false) in
    let inner : e ≡ r.ends.inner = c.into_inner.ensures ∙ ap (λ (x : EndReader SingleReader). x.inner) p.ensures.ends in
    let here : CanWalk (Led r.lead) (single_list e) (map single_list p.result.1.items) (map single_list p.result.2.items) r.at (single_place e) (map single_place p.result.1.items) (map single_place p.result.2.items) =
    can_same (Led r.lead) E (single_list e) W (map single_list p.result.1.items) N (map single_list p.result.2.items) r.at (single_place r.ends.inner) (single_place e)
    (map single_place r.words.items) (map single_place p.result.1.items) (map single_place r.negated.items) (map single_place p.result.2.items)
    (ap single_list inner) (ap (λ (v : Vec SingleReader Global). map single_list v.items) p.ensures.words) (ap (λ (v : Vec SingleReader Global). map single_list v.items) p.ensures.negated)
    (ap single_place inner) (ap (λ (v : Vec SingleReader Global). map single_place v.items) p.ensures.words) (ap (λ (v : Vec SingleReader Global). map single_place v.items) p.ensures.negated)
    (led_can r s below) in
    let led : CanWalk (Led p.result.3) (single_list e) (map single_list p.result.1.items) (map single_list p.result.2.items) r.at (single_place e) (map single_place p.result.1.items) (map single_place p.result.2.items) =
    subst (λ k. CanWalk (Led k) (single_list e) (map single_list p.result.1.items) (map single_list p.result.2.items) r.at (single_place e) (map single_place p.result.1.items) (map single_place p.result.2.items))
    (sym p.ensures.lead) here in
    subst (λ a. CanWalk (Led p.result.3) (single_list e) (map single_list p.result.1.items) (map single_list p.result.2.items) a (single_place e) (map single_place p.result.1.items) (map single_place p.result.2.items))
    (sym c.loc-at.ensures.location) led

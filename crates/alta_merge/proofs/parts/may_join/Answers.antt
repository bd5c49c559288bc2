use Rattle.std.proofs.Common.{◌≡◌, ◌-◌, ◌<◌, ◌≤◌, length, get_or, refl, sym, ap, subst, arith}
use Rattle.std.proofs.lemmas.Bool.{ltb-true, ltb-false}
use Rattle.alta_content.proofs.Contents.{last_placed, none_before, none_behind, two_rows}
use Rattle.alta_merge.proofs.parts.may_join.Goals as goal

pub is_before-requires : goal.is_before-requires
is_before-requires c =
    let a = c.args.a.now in
    let row = c.in-Some.row.now in
    let some : 0 < length c.as_slice.result.now = ltb-true 0 (length c.as_slice.result.now) (sym c.in-Some.ensures.item.0) in
    last_placed a row c.requires.a
    (subst (λ l. 0 < length l) c.as_slice.ensures some)
    (subst (λ l. get_or l (length l - 1) row ≡ row) c.as_slice.ensures (sym c.in-Some.ensures.item.1))

pub returns : goal.returns
returns c =
    let a = c.args.a.now in
    let b = c.args.b.now in
    let row = c.in-Some.row.now in
    let other = c.in-Some-first.other.now in
    let some : 0 < length c.as_slice.result.now = ltb-true 0 (length c.as_slice.result.now) (sym c.in-Some.ensures.item.0) in
    let few : 0 < length c.as_slice-2.result.now = ltb-true 0 (length c.as_slice-2.result.now) (sym c.in-Some-first.ensures.item.0) in
    let both = two_rows a b row other c.requires.a c.requires.b
    (subst (λ l. 0 < length l) c.as_slice.ensures some)
    (subst (λ l. get_or l (length l - 1) row ≡ row) c.as_slice.ensures (sym c.in-Some.ensures.item.1))
    (subst (λ l. 0 < length l) c.as_slice-2.ensures few)
    (subst (λ l. get_or l 0 other ≡ other) c.as_slice-2.ensures (sym c.in-Some-first.ensures.item.1)) in
    (λ t. both.0 (c.is_before.ensures.0 t), λ h. c.is_before.ensures.1 (both.1 h))

pub returns-in_default : goal.returns-in_default
returns-in_default c =
    let none : length c.as_slice.result.now ≤ 0 = ltb-false 0 (length c.as_slice.result.now) (sym c.in_default.ensures.item.0) in
    (λ _. none_before c.args.a.now c.args.b.now c.requires.a c.requires.b (omega (arith, none, ap length c.as_slice.ensures)), λ _. refl)

pub returns-in_default-first : goal.returns-in_default-first
returns-in_default-first c =
    let none : length c.as_slice-2.result.now ≤ 0 = ltb-false 0 (length c.as_slice-2.result.now) (sym c.in_default-first.ensures.item.0) in
    (λ _. none_behind c.args.a.now c.args.b.now c.requires.a c.requires.b (omega (arith, none, ap length c.as_slice-2.ensures)), λ _. refl)

use Rattle.std.proofs.Common.{◌≡◌, ℕ, ◌+◌, ◌-◌, List, ◌++◌, drop, length, ap, ◌∙◌, arith}
use Rattle.alta_content.specs.Packed.{AreGaps, IsGathered, last_behind, locations_in}
use Rattle.alta_content.proofs.Packs.{gaps_long, last_gathered, put_gathered}
use Rattle.alta_content.proofs.packed_locations.PackedLocations.put.Goals as goal

-- the locations that were there
abbrev old : goal.After-self-4-1 → List ℕ
old c = locations_in c.self.inside.count 0 c.self.inside.gaps.items

pub overflow_add-self : goal.overflow_add-self
overflow_add-self c =
    let s = c.self.inside in
    let xs = locations_in s.count 0 s.gaps.items in
    omega (
      arith,
      gaps_long 0 xs,
      c.self.invariant.are.counted,
      ap (λ (b : List ℕ). length b) c.self.invariant.are.spelled,
      gaps_long 0 c.requires.0,
      c.requires.1.counted,
      ap (λ (b : List ℕ). length b) c.requires.1.spelled,
    )

-- the last of them
last_is : (c : goal.After-self-4-1) → c.last_at-last.result ≡ last_behind 0 (old c)
last_is c =
    let s = c.self.inside in
    c.last_at-last.ensures
    ∙ ap (λ (gaps : List ℕ). last_behind s.last (locations_in (s.count - s.before) s.last (drop s.place gaps))) c.deref.ensures.value
    ∙ last_gathered s.gaps.items s.count s.before s.last s.place (old c) c.self.invariant

module _ (c : goal.After-self-4-1) (locations : List ℕ) (are : AreGaps c.args.list.gaps.now c.args.list.count locations) where
  gathered : IsGathered c.put_behind.new.all.items (c.self.inside.count + c.args.list.count) c.self.inside.count c.last_at-last.result (length c.self.inside.gaps.items) (old c ++ locations)
      × (locations_in (c.self.inside.count + c.args.list.count) 0 c.put_behind.new.all.items ≡ old c ++ locations)
  gathered =
      let s = c.self.inside in
      put_gathered s.gaps.items c.args.list.gaps.now c.put_behind.new.all.items s.count c.args.list.count c.last_at-last.result (old c) locations
      c.self.invariant.are (last_is c) are (c.in_ok-put_behind.ensures locations are.spelled are.small)

pub returns : goal.returns
returns c = λ locations are. record { put = (gathered c locations are).1 ∙ ap (λ (x : List ℕ). x ++ locations) c.self.view_is; kept = tt }

pub invariant_of-self-2 : goal.invariant_of-self-2
invariant_of-self-2 c =
    let all = gathered c c.requires.0 c.requires.1 in
    let place : c.len-place.result ≡ length c.self.inside.gaps.items = omega (arith, c.len-place.ensures) in
    rw (all.1, place) all.0

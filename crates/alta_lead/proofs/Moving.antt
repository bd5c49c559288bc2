-- Moves one after another.
use Rattle.std.proofs.Common.{◌≡◌, ℕ, ◌+◌, ◌*◌, ◌≤◌, List, [], map, get_or, refl, ap, ◌∙◌, arith}
use Rattle.std.specs.Prelude.{All, sum_by}
use Rattle.std.proofs.Math.Nat.{add-mul, mul-add, mul-le-mul_right}
use Rattle.alta_codec.specs.Rising.{pred_of, count_from}
use Rattle.alta_lead.specs.Having.{ends_having}
use Rattle.alta_lead.specs.Moves.{Chains, left_of, list_of, rest_of, cost_of, IsMoved, AreMoved, AllMoved}

module _ {R : Type 0} (sound : R → Type 0) (list all : R → List ℕ) (left cost : R → ℕ) where
  pub still : (r : R) (most : ℕ) → sound r → IsMoved sound list all left cost most r r 0
  still r most s = record { sound = s; same_list = refl; same_all = refl; steps = omega arith; each = λ of h. omega arith }

  pub all_still : (rs : List R) (most : ℕ) → All sound rs → AreMoved sound list all left cost most rs rs 0
  all_still rs most s = record { sound = s; lists = refl; alls = refl; steps = omega arith; each = λ of h. omega arith }

  pub moved_then : (x y z : R) (a b p q : ℕ) → IsMoved sound list all left cost a x y p → IsMoved sound list all left cost b y z q
      → IsMoved sound list all left cost (a + b) x z (p + q)
  moved_then x y z a b p q f s = record {
    sound = s.sound;
    same_list = s.same_list ∙ f.same_list;
    same_all = s.same_all ∙ f.same_all;
    steps = omega (arith, f.steps, s.steps);
    each = λ of h. omega (arith, f.each of h, s.each of h, ap (λ l. b * of l) f.same_list, add-mul a b (of (list x)));
  }

  pub all_moved_then : (xs ys zs : List R) (a b p q : ℕ) → AreMoved sound list all left cost a xs ys p → AreMoved sound list all left cost b ys zs q
      → AreMoved sound list all left cost (a + b) xs zs (p + q)
  all_moved_then xs ys zs a b p q f s = record {
    sound = s.sound;
    lists = s.lists ∙ f.lists;
    alls = s.alls ∙ f.alls;
    steps = omega (arith, f.steps, s.steps);
    each = λ of h. omega (arith, f.each of h, s.each of h, ap (λ l. b * sum_by of l) f.lists, add-mul a b (sum_by of (map list xs)));
  }

  -- fewer moves are also at most so many
  pub moved_more : (x y : R) (a b p : ℕ) → a ≤ b → IsMoved sound list all left cost a x y p → IsMoved sound list all left cost b x y p
  moved_more x y a b p l f = record {
    sound = f.sound;
    same_list = f.same_list;
    same_all = f.same_all;
    steps = f.steps;
    each = λ of h. omega (arith, f.each of h, mul-le-mul_right (of (list x)) l);
  }

  pub all_moved_more : (xs ys : List R) (a b p : ℕ) → a ≤ b → AreMoved sound list all left cost a xs ys p → AreMoved sound list all left cost b xs ys p
  all_moved_more xs ys a b p l f = record {
    sound = f.sound;
    lists = f.lists;
    alls = f.alls;
    steps = f.steps;
    each = λ of h. omega (arith, f.each of h, mul-le-mul_right (sum_by of (map list xs)) l);
  }

  pub both_moved : (c d e : Chains R) (a b most p q r : ℕ) → a + b ≤ most → AllMoved sound list all left cost a c d p q → AllMoved sound list all left cost b d e q r
      → AllMoved sound list all left cost most c e p r
  both_moved c d e a b most p q r l f s = record {
    of_ends = f.of_ends + s.of_ends;
    of_words = f.of_words + s.of_words;
    of_negated = f.of_negated + s.of_negated;
    ends = moved_more c.ends e.ends (a + b) most (f.of_ends + s.of_ends) l (moved_then c.ends d.ends e.ends a b f.of_ends s.of_ends f.ends s.ends);
    words = all_moved_more c.words e.words (a + b) most (f.of_words + s.of_words) l
        (all_moved_then c.words d.words e.words a b f.of_words s.of_words f.words s.words);
    negated = all_moved_more c.negated e.negated (a + b) most (f.of_negated + s.of_negated) l
        (all_moved_then c.negated d.negated e.negated a b f.of_negated s.of_negated f.negated s.negated);
    steps = omega (arith, f.steps, s.steps);
  }

  -- the list, and what is behind a place, stay
  pub same_list_of : (c d : Chains R) (a p q : ℕ) → AllMoved sound list all left cost a c d p q → list_of list d ≡ list_of list c
  same_list_of c d a p q m =
      ap (λ e. ends_having e (map list d.words) (map list d.negated)) m.ends.same_list
      ∙ ap (λ w. ends_having (list c.ends) w (map list d.negated)) m.words.lists ∙ ap (λ n. ends_having (list c.ends) (map list c.words) n) m.negated.lists

  pub same_rest_of : (c d : Chains R) (a p q lead place : ℕ) → AllMoved sound list all left cost a c d p q → rest_of list d lead place ≡ rest_of list c lead place
  same_rest_of c d a p q lead place m =
      ap (λ e. count_from (get_or (map list d.words) lead []) (pred_of e place + 1)) m.ends.same_list
      ∙ ap (λ w. count_from (get_or w lead []) (pred_of (list c.ends) place + 1)) m.words.lists

  -- what is left falls by at least the steps
  pub moved_left : (c d : Chains R) (a p q : ℕ) → AllMoved sound list all left cost a c d p q → q + left_of left d ≤ p + left_of left c
  moved_left c d a p q m = omega (arith, m.ends.steps, m.words.steps, m.negated.steps, m.steps)

  pub moved_falls : (c d : Chains R) (a p q : ℕ) → AllMoved sound list all left cost a c d p q → left_of left d ≤ left_of left c
  moved_falls c d a p q m = omega (arith, m.ends.steps, m.words.steps, m.negated.steps)

  -- the steps are at most so many moves of each reader
  pub moved_each : (c d : Chains R) (a p q : ℕ) → AllMoved sound list all left cost a c d p q
      → (of : List ℕ → ℕ) → ((r : R) → cost r ≤ of (list r)) → q ≤ p + a * cost_of list of c
  moved_each c d a p q m of h =
      let e = of (list c.ends) in let w = sum_by of (map list c.words) in let n = sum_by of (map list c.negated) in
      omega (arith, m.steps, m.ends.each of h, m.words.each of h, m.negated.each of h, mul-add a (e + w) n, mul-add a e w)

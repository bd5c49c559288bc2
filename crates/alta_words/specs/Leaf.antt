-- What a leaf is, by its form.
use Rattle.std.specs.Prelude.{ℕ, List}
use Rattle.alta_codec.specs.Rising.{IsRising, IsPlace}
use Rattle.alta_codec.proofs.ByIndex.{at_place}
use Rattle.alta_words.specs.declared.leaf.Leaf.{Leaf}
use Rattle.alta_words.specs.declared.leaf.Leaf.TheVariants.{Coded, Plain}
use Rattle.alta_words.specs.Held.{IsSoundWord, word_list, word_place, word_rises, word_stands}
use Rattle.alta_words.specs.Plain.{IsSoundPlain, plain_list, plain_place}

-- its list of locations
abbrev pub leaf_list : Leaf → List ℕ
leaf_list (Coded r) = word_list r
leaf_list (Plain r) = plain_list r

-- where it stands: at an element, or at TOP past the last
abbrev pub leaf_place : Leaf → ℕ
leaf_place (Coded r) = word_place r
leaf_place (Plain r) = plain_place r

-- what each leaf keeps
abbrev pub IsSoundLeaf : Leaf → Type 0
IsSoundLeaf (Coded r) = IsSoundWord r
IsSoundLeaf (Plain r) = IsSoundPlain r

pub leaf_rises : (s : Leaf) → IsSoundLeaf s → IsRising (leaf_list s)
leaf_rises (Coded r) h = word_rises r h
leaf_rises (Plain r) h = h.0

pub leaf_stands : (s : Leaf) → IsSoundLeaf s → IsPlace (leaf_list s) (leaf_place s)
leaf_stands (Coded r) h = word_stands r h
leaf_stands (Plain r) h = (at_place r.list.now r.at h.0).0

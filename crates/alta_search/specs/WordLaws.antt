-- Laws of the readers of a term and of a test.
use Rattle.std.proofs.Common.{◌≡◌, ℕ, map, refl, sym, subst}
use Rattle.std.specs.Prelude.{Contains, ◌↔◌}
use Rattle.alta_codec.specs.Rising.{IsRising, IsPlace, count_from}
use Rattle.alta_compound.specs.OverReaders.{union_of-rises, in_step_place, gathered-members, gathered-left}
use Rattle.alta_search.specs.Words.{chain_list, IsSoundTerm, term_list, term_place, term_left, IsSoundSingle, single_list, single_place, IsSoundReader, reader_list, reader_all, reader_place, reader_left}
use Rattle.alta_search.specs.declared.single_reader.SingleReader.{SingleReader}
use Rattle.alta_search.specs.declared.single_reader.SingleReader.TheVariants as single
use Rattle.alta_search.specs.declared.term_reader.TermReader.{TermReader}
use Rattle.alta_search.specs.declared.test_reader.TestReader.{TestReader}
use Rattle.alta_search.specs.declared.test_reader.TestReader.TheVariants.{Coded, Plain, Any}
use Rattle.alta_words.specs.Chain.{chain_place}
use Rattle.alta_words.specs.Held.{word_rises, word_stands}
use Rattle.alta_words.specs.Leaf.{leaf_list, leaf_place, leaf_rises, leaf_stands}
use Rattle.alta_words.specs.declared.leaf.Leaf.TheVariants as leaf

pub term_stands : (s : TermReader) → IsSoundTerm s → IsPlace (term_list s) (term_place s)
term_stands s h =
    subst (λ x. IsPlace (chain_list s.chain) x) (sym h.1)
    (chain_place (map leaf_list s.chain.leaves.items) (map leaf_place s.chain.leaves.items) s.chain.at h.0.1)

pub single_rises : (s : SingleReader) → IsSoundSingle s → IsRising (single_list s)
single_rises (single.Coded r) h = word_rises r h
single_rises (single.Plain r) h = leaf_rises (leaf.Plain r) h
single_rises (single.Chain r) h = h.0.1.rising

pub single_stands : (s : SingleReader) → IsSoundSingle s → IsPlace (single_list s) (single_place s)
single_stands (single.Coded r) h = word_stands r h
single_stands (single.Plain r) h = leaf_stands (leaf.Plain r) h
single_stands (single.Chain r) h = term_stands r h

pub reader_rises : (s : TestReader) → IsSoundReader s → IsRising (reader_list s)
reader_rises (Coded r) h = word_rises r h
reader_rises (Plain r) h = leaf_rises (leaf.Plain r) h
reader_rises (Any r) h = union_of-rises term_list r.readers.items (λ k d l. (h.0 k d l).0.1.rising)

pub reader_stands : (s : TestReader) → IsSoundReader s → IsPlace (reader_list s) (reader_place s)
reader_stands (Coded r) h = word_stands r h
reader_stands (Plain r) h = leaf_stands (leaf.Plain r) h
reader_stands (Any r) h = in_step_place term_list term_place r.readers.items r.at h.1.in_step

pub reader_members : (s : TestReader) → IsSoundReader s → (x : ℕ)
    → Contains (reader_all s) x ↔ Contains (reader_list s) x
reader_members (Coded r) h x = (λ m. m, λ m. m)
reader_members (Plain r) h x = (λ m. m, λ m. m)
reader_members (Any r) h x = gathered-members term_list term_list r.readers.items (λ k d l y. (λ m. m, λ m. m)) x

pub reader_left_is : (s : TestReader) → IsSoundReader s → reader_left s ≡ count_from (reader_all s) (reader_place s)
reader_left_is (Coded r) h = refl
reader_left_is (Plain r) h = refl
reader_left_is (Any r) h =
    gathered-left term_list term_list term_place term_left r.readers.items r.at h.1.in_step
    (λ k d l y. (λ m. m, λ m. m)) (λ k d l. refl)

-- Write sets and records: what their constructors answer, and that what was packed is read again.
use Rattle.std.proofs.Common.{◌≡◌, ℕ, suc, List, [], ◌∷◌, ◌++◌, length, Some, refl, ap, ◌∙◌, append_assoc, arith}
use Rattle.std.specs.List.{flat_map, AllByRecursion}
use Rattle.std.specs.Int.{w64, to_le_bytes}
use Rattle.std.proofs.lemmas.Bool.{le-leb, le-ltb, lt-ltb, ne_eqb}
use Rattle.std.proofs.lemmas.List.Concat.{flat_map-cons}
use Rattle.stamps.specs.Key.{IsKey}
use Rattle.stamps.specs.Limits.{max_keys}
use Rattle.stamps.specs.WriteSet.{IsWriteSet}
use Rattle.stamps.specs.Record.{Record}
use Rattle.packed.specs.Packing.{packed_text, packed_keys, packed_record, IsStoreRecord}
use Rattle.stamps.specs.Making.{writes_from}
use Rattle.stamps.proofs.MakingLemmas.{ascending_to, member_to}
use Rattle.packed.specs.Reading.{keys_at, writes_of, writes_at, record_at}
use Rattle.packed.proofs.Texts.{key_again, tag_again, value_again, stamp_again}

-- ---- write sets

keys_again : (keys : List (List ℕ)) (rest : List ℕ) → AllByRecursion IsKey keys → keys_at (length keys) (flat_map packed_text keys ++ rest) ≡ Some (keys, rest)
unfolding keys_at
keys_again [] rest h = refl
keys_again (key ∷ keys) rest h =
    let others = flat_map packed_text keys ++ rest in
    let regrouped : flat_map packed_text (key ∷ keys) ++ rest ≡ packed_text key ++ others = ap (λ (x : List ℕ). x ++ rest) (flat_map-cons packed_text key keys) ∙ append_assoc (packed_text key) (flat_map packed_text keys) rest in
    ap (keys_at (suc (length keys))) regrouped ∙ rw (key_again key others h.0, keys_again keys rest h.1) refl

pub writes_again : (keys : List (List ℕ)) (rest : List ℕ) → IsWriteSet keys → AllByRecursion IsKey keys → writes_at (packed_keys keys ++ rest) ≡ Some (keys, rest)
unfolding writes_at writes_of writes_from
writes_again keys rest h all =
    let some = h.not_empty in
    rw (
      ne_eqb (length keys) 0 (λ e. omega (arith, some, e)),
      le-ltb max_keys (length keys) h.at_most,
      keys_again keys rest all,
      le-leb (length keys) max_keys h.at_most,
      ascending_to keys h.ascending,
    ) refl

-- ---- records

parted : (a b c d e rest : List ℕ) → (a ++ b ++ c ++ d ++ e) ++ rest ≡ a ++ (b ++ (c ++ (d ++ (e ++ rest))))
parted a b c d e rest = simp append_assoc

pub record_again : (r : Record) (rest : List ℕ) → IsStoreRecord r → record_at (packed_record r ++ rest) ≡ Some (r, rest)
unfolding record_at
record_again r rest h =
    let after_stamp = packed_keys r.writes ++ rest in
    let after_value = to_le_bytes w64 r.stamp ++ after_stamp in
    let after_tag = packed_text r.value ++ after_value in
    let after_key = packed_text r.tag ++ after_tag in
    ap record_at (parted (packed_text r.key) (packed_text r.tag) (packed_text r.value) (to_le_bytes w64 r.stamp) (packed_keys r.writes) rest)
    ∙ rw (
      key_again r.key after_key h.key,
      tag_again r.tag after_tag h.tag,
      value_again r.value after_value h.value,
      stamp_again r.stamp after_stamp h.stamp,
      writes_again r.writes rest h.writes h.keys,
      lt-ltb 0 r.stamp h.whole.written,
      member_to r.key r.writes h.whole.member,
    ) refl

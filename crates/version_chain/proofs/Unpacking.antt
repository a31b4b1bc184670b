-- That a packed version is read again, and lists of packed versions.
use Rattle.std.proofs.Common.{◌≡◌, ℕ, zero, suc, Bool, true, false, List, [], ◌∷◌, ◌++◌, length, take, drop, Some, refl, sym, ap, subst, ◌∙◌, arith}
use Rattle.std.specs.Prelude.{slice_get, ◌==◌, IsSome}
use Rattle.std.specs.Option.{option_map}
use Rattle.std.specs.Int.{w64, to_le_bytes}
use Rattle.std.proofs.Math.Seq.{take-length}
use Rattle.std.proofs.lemmas.List.{take-map, drop-map}
use Rattle.stamps.specs.Record.{Record}
use Rattle.packed.specs.Bodies.{packed_body, record_in, IsPackedBody}
use Rattle.packed.specs.Packing.{IsStoreRecord}
use Rattle.packed.specs.Reading.{byte_at, stamp_at}
use Rattle.packed.proofs.BodyParts.{record_is, found, pair_parts, is_there}
use Rattle.packed.proofs.Texts.{stamp_again}
use Rattle.version_chain.specs.declared.version.Version.{Version}
use Rattle.version_chain.specs.PackedVersions.{mark_of, packed_version, version_from, version_at, version_in, IsPackedVersion, ArePackedVersions, versions_in}

stamp_there : (r : Record) → IsStoreRecord r → stamp_at (to_le_bytes w64 r.stamp ++ packed_body r) ≡ Some (r.stamp, packed_body r)
stamp_there r h = stamp_again r.stamp (packed_body r) h.stamp

record_there : (r : Record) → IsStoreRecord r → record_in r.stamp (packed_body r) ≡ r
record_there r h = record_is r.stamp (packed_body r) (r, h, refl, refl)

mark_again : (committed : Bool) → (mark_of committed == 1) ≡ committed
mark_again true = refl
mark_again false = refl

version_again : (v : Version) → IsStoreRecord v.prepared → version_at (packed_version v) ≡ Some v
unfolding version_at
version_again v h = rw (stamp_there v.prepared h) (λ i. Some (record { prepared = record_there v.prepared h i; committed = mark_again v.committed i }))

pub version_is : (v : Version) (bytes : List ℕ) → IsStoreRecord v.prepared → bytes ≡ packed_version v → version_in bytes ≡ v
version_is v bytes h is = rw (is, version_again v h) refl

-- what is read of the bytes of a version, one part after the other
module _ (v : Version) (h : IsStoreRecord v.prepared) (bytes : List ℕ) (is : bytes ≡ packed_version v) (mark : ℕ) (rest : List ℕ) (read : found mark rest ≡ byte_at bytes) where
  parts : (mark ≡ mark_of v.committed) × (rest ≡ to_le_bytes w64 v.prepared.stamp ++ packed_body v.prepared)
  parts = pair_parts mark (mark_of v.committed) rest (to_le_bytes w64 v.prepared.stamp ++ packed_body v.prepared) (read ∙ ap byte_at is)

  found_stamp : stamp_at rest ≡ found v.prepared.stamp (packed_body v.prepared)
  found_stamp = ap stamp_at parts.1 ∙ stamp_there v.prepared h

  pub has_stamp : IsSome (stamp_at rest)
  has_stamp = is_there found_stamp

  module _ (stamp : ℕ) (body : List ℕ) (then : found stamp body ≡ stamp_at rest) where
    others : (stamp ≡ v.prepared.stamp) × (body ≡ packed_body v.prepared)
    others = pair_parts stamp v.prepared.stamp body (packed_body v.prepared) (then ∙ found_stamp)

    pub has_body : IsPackedBody stamp (take (length body) body)
    has_body = (v.prepared, h, sym others.0, take-length body ∙ others.1)

    pub is_version : (r : Record) (all : Version) → r ≡ record_in stamp (take (length body) body) → all ≡ version_from mark r → all ≡ v
    unfolding has_body
    is_version r all own whole =
        let same : r ≡ v.prepared = own ∙ record_is stamp (take (length body) body) has_body in
        whole ∙ (λ i. record { prepared = same i; committed = (ap (λ (m : ℕ). m == 1) parts.0 ∙ mark_again v.committed) i })

pub one_more : (pieces : List (List ℕ)) (v : Version) (bytes : List ℕ) → ArePackedVersions pieces → IsStoreRecord v.prepared → bytes ≡ packed_version v → ArePackedVersions (pieces ++ bytes ∷ [])
one_more [] v bytes all h is =
    let same = version_is v bytes h is in
    ((subst (λ (w : Version). IsStoreRecord w.prepared) (sym same) h, is ∙ ap packed_version (sym same)), tt)
one_more (piece ∷ pieces) v bytes all h is = (all.0, one_more pieces v bytes all.1 h is)

pub versions_once_more : (pieces : List (List ℕ)) (v : Version) (bytes : List ℕ) → IsStoreRecord v.prepared → bytes ≡ packed_version v → versions_in (pieces ++ bytes ∷ []) ≡ versions_in pieces ++ v ∷ []
versions_once_more [] v bytes h is = ap (λ (x : Version). x ∷ []) (version_is v bytes h is)
versions_once_more (piece ∷ pieces) v bytes h is = ap (λ (xs : List Version). version_in piece ∷ xs) (versions_once_more pieces v bytes h is)

pub as_many : (pieces : List (List ℕ)) → length (versions_in pieces) ≡ length pieces
as_many [] = refl
as_many (piece ∷ pieces) = ap suc (as_many pieces)

pub packed_there : (pieces : List (List ℕ)) (at : ℕ) (bytes : List ℕ) → ArePackedVersions pieces → Some bytes ≡ slice_get pieces at → IsPackedVersion bytes
packed_there [] at bytes all is = absurd (cc)
packed_there (piece ∷ pieces) zero bytes all is = let same : piece ≡ bytes = cc in subst IsPackedVersion same all.0
packed_there (piece ∷ pieces) (suc at) bytes all is = packed_there pieces at bytes all.1 is

pub version_there : (pieces : List (List ℕ)) (at : ℕ) → slice_get (versions_in pieces) at ≡ option_map version_in (slice_get pieces at)
version_there [] at = refl
version_there (piece ∷ pieces) zero = refl
version_there (piece ∷ pieces) (suc at) = version_there pieces at

none_same : {X : Type 0} (x : X) (xs : List X) → [] ≡ x ∷ xs → ⊥
none_same x xs same = absurd (omega (arith, ap length same))

-- bytes that are packed of the same versions are the same
pub same_pieces : (pieces others : List (List ℕ)) → ArePackedVersions pieces → ArePackedVersions others → versions_in pieces ≡ versions_in others → pieces ≡ others
same_pieces [] [] all each same = refl
same_pieces [] (other ∷ others) all each same = absurd (none_same _ _ same)
same_pieces (piece ∷ pieces) [] all each same = absurd (none_same _ _ (sym same))
same_pieces (piece ∷ pieces) (other ∷ others) all each same =
    let first : version_in piece ≡ version_in other = cc in
    let later : versions_in pieces ≡ versions_in others = cc in
    let is : piece ≡ other = all.0.1 ∙ ap packed_version first ∙ sym each.0.1 in
    let rest = same_pieces pieces others all.1 each.1 later in
    λ i. is i ∷ rest i

-- ---- a part of a list

all_taken : (n : ℕ) (pieces : List (List ℕ)) → ArePackedVersions pieces → ArePackedVersions (take n pieces)
all_taken zero pieces all = tt
all_taken (suc n) [] all = tt
all_taken (suc n) (piece ∷ pieces) all = (all.0, all_taken n pieces all.1)

all_dropped : (n : ℕ) (pieces : List (List ℕ)) → ArePackedVersions pieces → ArePackedVersions (drop n pieces)
all_dropped zero pieces all = all
all_dropped (suc n) [] all = tt
all_dropped (suc n) (piece ∷ pieces) all = all_dropped n pieces all.1

pub part_packed : (from count : ℕ) (pieces : List (List ℕ)) → ArePackedVersions pieces → ArePackedVersions (take count (drop from pieces))
part_packed from count pieces all = all_taken count (drop from pieces) (all_dropped from pieces all)

pub part_is : (from count : ℕ) (pieces : List (List ℕ)) → versions_in (take count (drop from pieces)) ≡ take count (drop from (versions_in pieces))
part_is from count pieces =
    sym (take-map version_in count (drop from pieces)) ∙ ap (take count) (sym (drop-map version_in from pieces))

pub both_packed : (pieces more : List (List ℕ)) → ArePackedVersions pieces → ArePackedVersions more → ArePackedVersions (pieces ++ more)
both_packed [] more all each = each
both_packed (piece ∷ pieces) more all each = (all.0, both_packed pieces more all.1 each)

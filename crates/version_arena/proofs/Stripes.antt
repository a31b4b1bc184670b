-- The bytes of slots in pieces, as one piece after the other is written or read.
use Rattle.std.proofs.Common.{◌≡◌, ◌≢◌, ℕ, zero, suc, ◌+◌, ◌-◌, ◌*◌, ◌%◌, ◌<◌, ◌≤◌, inl, inr, List, [], ◌∷◌, ◌++◌, length, take, drop, get_or, set, Option, Some, None, refl, sym, ap, subst, ◌∙◌, arith, take-take, drop-drop, take_at, drop_at, take-append-drop, length-set, length-take-le, length-drop, length-append, get_or-set_same, get_or-set_other, take-add, mod-eq_of_lt}
use Rattle.std.proofs.Math.Nat.{add-mod_right}
use Rattle.std.proofs.lemmas.List.{same_lists}
use Rattle.std.proofs.lemmas.List.FromFn.{get_or-map-range_with_len, length-map-range_with_len}
use Rattle.std.proofs.lemmas.Bool.{cases_eq}
use Rattle.std.proofs.lemmas.Nat.{mod-mul-add}
use Rattle.version_arena.specs.Stripes.{joined, bytes_from, bytes_of, slots_of}

abbrev Pieces : Type 0
Pieces = List (Option (List ℕ))

-- ---- slots

pub slots-length : (pieces : Pieces) (cap : ℕ) → length (slots_of pieces cap) ≡ cap
slots-length pieces cap = length-map-range_with_len (bytes_of pieces cap) 0 cap

pub slots-at : (pieces : Pieces) (cap slot : ℕ) (d : List ℕ) → slot < cap → get_or (slots_of pieces cap) slot d ≡ bytes_of pieces cap slot
slots-at pieces cap slot d within = get_or-map-range_with_len (bytes_of pieces cap) 0 cap slot slot d within (omega arith)

pub slot_is : (pieces : Pieces) (cap slot : ℕ) (all : List (List ℕ)) → slots_of pieces cap ≡ all → slot < length all → (slot < cap) × (get_or all slot [] ≡ bytes_of pieces cap slot)
slot_is pieces cap slot all view within =
    let there : slot < cap = omega (arith, within, ap length view, slots-length pieces cap) in
    (there, ap (λ xs. get_or xs slot []) (sym view) ∙ slots-at pieces cap slot [] there)

-- the bytes of one slot alone were changed
pub slots-set : (old new : Pieces) (cap slot : ℕ) → slot < cap → ((other : ℕ) → other < cap → other ≢ slot → bytes_of new cap other ≡ bytes_of old cap other)
    → slots_of new cap ≡ set (slots_of old cap) slot (bytes_of new cap slot)
slots-set old new cap slot within others =
    same_lists (slots_of new cap) (set (slots_of old cap) slot (bytes_of new cap slot)) (slots-length new cap ∙ sym (length-set (slots_of old cap) slot (bytes_of new cap slot) ∙ slots-length old cap)) (λ k d below.
    let there : k < cap = omega (arith, below, slots-length new cap) in
    elim (cases_eq k slot) [
      | inl same ↦
          let one : get_or (set (slots_of old cap) slot (bytes_of new cap slot)) slot d ≡ bytes_of new cap slot = get_or-set_same (slots_of old cap) slot (bytes_of new cap slot) d (omega (arith, within, slots-length old cap)) in
          slots-at new cap k d there ∙ ap (bytes_of new cap) same ∙ sym one ∙ ap (λ i. get_or (set (slots_of old cap) slot (bytes_of new cap slot)) i d) (sym same)
      | inr apart ↦
          slots-at new cap k d there ∙ others k there apart ∙ sym (slots-at old cap k d there) ∙ sym (get_or-set_other (slots_of old cap) slot k (bytes_of new cap slot) d apart)
    ])

-- ---- writes

-- a piece before those of a slot is written
pub written_before : (pieces : Pieces) (cap count here at : ℕ) (piece : Option (List ℕ)) → at < here → bytes_from (set pieces at piece) cap count here ≡ bytes_from pieces cap count here
written_before pieces cap zero here at piece before = refl
written_before pieces cap (suc count) here at piece before =
    (λ i. joined (get_or-set_other pieces at here piece None (λ same. absurd (omega (arith, same, before))) i) (written_before pieces cap count (here + cap) at piece (omega (arith, before)) i))

-- a piece of another slot is written
pub written_elsewhere : (pieces : Pieces) (cap count here at : ℕ) (piece : Option (List ℕ)) → here % cap ≢ at % cap → bytes_from (set pieces at piece) cap count here ≡ bytes_from pieces cap count here
written_elsewhere pieces cap zero here at piece apart = refl
written_elsewhere pieces cap (suc count) here at piece apart =
    (λ i. joined (get_or-set_other pieces at here piece None (λ same. apart (ap (λ n. n % cap) same)) i)
    (written_elsewhere pieces cap count (here + cap) at piece (λ same. apart (sym (add-mod_right here cap) ∙ same)) i))

pub written_other : (pieces : Pieces) (cap other at : ℕ) (piece : Option (List ℕ)) → other % cap ≢ at % cap → bytes_of (set pieces at piece) cap other ≡ bytes_of pieces cap other
unfolding bytes_of
written_other pieces cap other at piece apart = written_elsewhere pieces cap 12 other at piece apart

pub other_slot : (cap slot other nth : ℕ) → slot < cap → other < cap → other ≢ slot → other % cap ≢ (nth * cap + slot) % cap
other_slot cap slot other nth within there apart same = apart (sym (mod-eq_of_lt there) ∙ same ∙ mod-mul-add nth cap slot within)

-- the piece of a slot in the next row
pub row_up : (nth cap slot : ℕ) → suc nth * cap + slot ≡ nth * cap + slot + cap
row_up nth cap slot = omega arith

-- the piece before those that were written
pub written_here : (pieces : Pieces) (cap count here : ℕ) (piece : List ℕ) → 1 ≤ cap → here < length pieces
    → bytes_from (set pieces here (Some piece)) cap (suc count) here ≡ piece ++ bytes_from pieces cap count (here + cap)
written_here pieces cap count here piece some within =
    (λ i. joined (get_or-set_same pieces here (Some piece) None within i) (written_before pieces cap count (here + cap) here (Some piece) (omega (arith, some)) i))

-- ---- what is laid before bytes that begin alike

pub same_front : (front rest other : List ℕ) (n m : ℕ) → n ≤ length front + m → take m rest ≡ take m other → take n (front ++ rest) ≡ take n (front ++ other)
same_front [] rest other n m few same =
    let within : n ≤ m = omega (arith, few) in
    sym (take-take n m rest within) ∙ ap (take n) same ∙ take-take n m other within
same_front (x ∷ front) rest other zero m few same = refl
same_front (x ∷ front) rest other (suc n) m few same = ap (λ xs. x ∷ xs) (same_front front rest other n m (omega (arith, few)) same)

-- the pieces from this one on begin as the buffer does from here on, as far as its first bytes count
pub record AreLaid (pieces : Pieces) (cap count here : ℕ) (source : List ℕ) (from len : ℕ) : Type 0 where
  pub same : (m : ℕ) → m ≤ len - from → take m (bytes_from pieces cap count here) ≡ take m (drop from source)
  pub long : len - from ≤ length (bytes_from pieces cap count here)

pub laid_none : (pieces : Pieces) (cap count here : ℕ) (source : List ℕ) (from len : ℕ) → len ≤ from → AreLaid pieces cap count here source from len
laid_none pieces cap count here source from len past = record {
  same = λ m few. let none : m ≡ 0 = omega (arith, few, past) in rw none refl;
  long = omega (arith, past);
}

pub laid_more : (pieces : Pieces) (cap count here : ℕ) (source : List ℕ) (from len : ℕ) → 1 ≤ cap → here < length pieces → from + 64 ≤ length source
    → AreLaid pieces cap count (here + cap) source (from + 64) len
    → AreLaid (set pieces here (Some (take 64 (drop from source)))) cap (suc count) here source from len
laid_more pieces cap count here source from len some within room rest =
    let piece = take 64 (drop from source) in
    let behind = bytes_from pieces cap count (here + cap) in
    let is = written_here pieces cap count here piece some within in
    let size : length piece ≡ 64 = length-take-le 64 (drop from source) (omega (arith, room, length-drop from source)) in
    let whole : piece ++ drop (from + 64) source ≡ drop from source = ap (λ xs. piece ++ xs) (sym (drop-drop 64 from source)) ∙ take-append-drop 64 (drop from source) in
    record {
      same = λ m few.
          ap (take m) is ∙ same_front piece behind (drop (from + 64) source) m (m - 64) (omega (arith, size)) (rest.same (m - 64) (omega (arith, few))) ∙ ap (take m) whole;
      long = (let all = ap length is ∙ length-append piece behind in let more = rest.long in omega (arith, all, size, more));
    }

-- none is left to write
pub laid_all : (pieces : Pieces) (cap slot : ℕ) (source : List ℕ) (len left : ℕ) → left ≡ 0 → AreLaid pieces cap (12 - left) (left * cap + slot) source (left * 64) len
    → (take len (bytes_of pieces cap slot) ≡ take len source) × (len ≤ length (bytes_of pieces cap slot))
unfolding bytes_of
laid_all pieces cap slot source len left none laid =
    let first : left * cap + slot ≡ slot = rw none (omega arith) in
    let count : 12 - left ≡ 12 = omega (arith, none) in
    let from : left * 64 ≡ 0 = omega (arith, none) in
    let whole : AreLaid pieces cap 12 slot source 0 len =
    subst (λ (n : ℕ). AreLaid pieces cap n slot source 0 len) count
    (subst (λ (here : ℕ). AreLaid pieces cap (12 - left) here source 0 len) first (subst (λ (n : ℕ). AreLaid pieces cap (12 - left) (left * cap + slot) source n len) from laid)) in
    (whole.same len (omega arith), (let long = whole.long in omega (arith, long)))

-- ---- reads

-- where any bytes are left, the next piece has the first ones
pub next_piece : (pieces : Pieces) (cap count here : ℕ) (left : List ℕ) → left ≡ bytes_from pieces cap count here → 0 < length left
    → (before : ℕ) × (piece : List ℕ) × (get_or pieces here None ≡ Some piece) × (left ≡ piece ++ bytes_from pieces cap before (here + cap))
next_piece pieces cap zero here left is some = absurd (omega (arith, some, ap length is))
next_piece pieces cap (suc count) here left is some = go (get_or pieces here None) refl
  where
    go : (o : Option (List ℕ)) → get_or pieces here None ≡ o → (before : ℕ) × (piece : List ℕ) × (get_or pieces here None ≡ Some piece) × (left ≡ piece ++ bytes_from pieces cap before (here + cap))
    go None found = absurd (omega (arith, some, ap length (is ∙ ap (λ o. joined o (bytes_from pieces cap count (here + cap))) found)))
    go (Some piece) found = (count, piece, found, is ∙ ap (λ o. joined o (bytes_from pieces cap count (here + cap))) found)

-- the buffer begins with the first bytes of a slot, and the pieces from this one on have the others
pub record AreRead (pieces : Pieces) (cap here : ℕ) (bytes out : List ℕ) (done : ℕ) : Type 0 where
  pub count : ℕ
  pub rest : drop done bytes ≡ bytes_from pieces cap count here
  pub so_far : take done out ≡ take done bytes

pub read_none : (pieces : Pieces) (cap slot : ℕ) (out : List ℕ) → AreRead pieces cap slot (bytes_of pieces cap slot) out 0
unfolding bytes_of
read_none pieces cap slot out = record { count = 12; rest = refl; so_far = refl }

pub read_all : (pieces : Pieces) (cap here : ℕ) (bytes out : List ℕ) (done len : ℕ) → AreRead pieces cap here bytes out done → len ≤ done → take len out ≡ take len bytes
read_all pieces cap here bytes out done len read within = sym (take-take len done out within) ∙ ap (take len) read.so_far ∙ take-take len done bytes within

pub next_found : (pieces : Pieces) (cap here : ℕ) (bytes out : List ℕ) (done : ℕ) → AreRead pieces cap here bytes out done → done < length bytes
    → (before : ℕ) × (piece : List ℕ) × (get_or pieces here None ≡ Some piece) × (drop done bytes ≡ piece ++ bytes_from pieces cap before (here + cap))
next_found pieces cap here bytes out done read some =
    next_piece pieces cap read.count here (drop done bytes) read.rest (omega (arith, some, length-drop done bytes))

pub read_more : (pieces : Pieces) (cap here : ℕ) (bytes out new : List ℕ) (done : ℕ) (piece : List ℕ) → AreRead pieces cap here bytes out done → done < length bytes
    → get_or pieces here None ≡ Some piece → length piece ≡ 64 → take (done + 64) new ≡ take done out ++ piece
    → AreRead pieces cap (here + cap) bytes new (done + 64)
read_more pieces cap here bytes out new done piece read some here_is size laid =
    let next = next_found pieces cap here bytes out done read some in
    let both : Some next.1 ≡ Some piece = sym next.2 ∙ here_is in
    let same : next.1 ≡ piece = cc in
    let behind = bytes_from pieces cap next.0 (here + cap) in
    let left : drop done bytes ≡ piece ++ behind = next.3 ∙ ap (λ p. p ++ behind) same in
    record {
      count = next.0;
      rest = sym (drop-drop 64 done bytes) ∙ ap (drop 64) left ∙ drop_at piece behind 64 size;
      so_far = laid ∙ ap (λ front. front ++ piece) read.so_far ∙ joined_up bytes done piece behind size left;
    }
  where
    joined_up : (bytes : List ℕ) (done : ℕ) (piece behind : List ℕ) → length piece ≡ 64 → drop done bytes ≡ piece ++ behind → take done bytes ++ piece ≡ take (done + 64) bytes
    joined_up bytes done piece behind size left =
        ap (λ p. take done bytes ++ p) (sym (ap (take 64) left ∙ take_at piece behind 64 size)) ∙ sym (take-add done 64 bytes)

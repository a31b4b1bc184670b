-- Bytes without an LF, and where the first one is.
use Rattle.std.proofs.Common.{◌≡◌, ℕ, zero, suc, ◌+◌, ◌<◌, ◌≤◌, Bool, true, false, cond, ◌||◌, eqb, List, [], ◌∷◌, ◌++◌, length, get_or, take, drop, refl, sym, ap, subst, ◌∙◌, arith}
use Rattle.std.specs.List.{list_any}
use Rattle.std.specs.Io.BufRead.{take_through}
use Rattle.std.proofs.lemmas.List.{take-append-drop, take_all, length-append, length-take, length-take-le, append_assoc, take-take, take_at, append-nil}
use Rattle.line_protocol.specs.Stream.{line_limit, terminated, HasNoLineFeed, IsLine, IsTooLong}
use Rattle.line_protocol.specs.Held.{IsLineEnd, at_stage, AreHeld, GoesOnWith, bytes_fed}
use Rattle.line_protocol.specs.declared.lines.LineState.{LineState}
use Rattle.line_protocol.specs.declared.lines.LineState.TheVariants.{Partial, Whole, Spent, TooLong}

pub HasNoLineFeed-append : (xs ys : List ℕ) → HasNoLineFeed xs → HasNoLineFeed ys → HasNoLineFeed (xs ++ ys)
HasNoLineFeed-append [] ys h k = k
HasNoLineFeed-append (x ∷ xs) ys h k = (h.0, HasNoLineFeed-append xs ys h.1 k)

pub HasNoLineFeed-take : (n : ℕ) (xs : List ℕ) → HasNoLineFeed xs → HasNoLineFeed (take n xs)
HasNoLineFeed-take zero xs h = tt
HasNoLineFeed-take (suc n) [] h = tt
HasNoLineFeed-take (suc n) (x ∷ xs) h = (h.0, HasNoLineFeed-take n xs h.1)

-- none up to a place, by places
pub HasNoLineFeed-places : (n : ℕ) (xs : List ℕ) → ((k : ℕ) → k < n → eqb (get_or xs k 0) 10 ≡ true → ⊥) → HasNoLineFeed (take n xs)
HasNoLineFeed-places zero xs h = tt
HasNoLineFeed-places (suc n) [] h = tt
HasNoLineFeed-places (suc n) (x ∷ xs) h =
    (not_true (eqb x 10) (h 0 (omega arith)), HasNoLineFeed-places n xs (λ k lt e. h (suc k) (omega arith) e))
  where
    not_true : (b : Bool) → (b ≡ true → ⊥) → b ≡ false
    not_true true f = absurd (f refl)
    not_true false f = refl

pub any-none : (xs : List ℕ) → HasNoLineFeed xs → list_any (λ b. eqb b 10) xs ≡ false
any-none [] h = refl
any-none (x ∷ xs) h = rw h.0 (any-none xs h.1)

pub any-terminated : (xs rest : List ℕ) → list_any (λ b. eqb b 10) (xs ++ 10 ∷ rest) ≡ true
any-terminated [] rest = refl
any-terminated (x ∷ xs) rest = rw (any-terminated xs rest) (or_true (eqb x 10))
  where
    or_true : (b : Bool) → (b || true) ≡ true
    or_true true = refl
    or_true false = refl

pub take_through-none : (xs : List ℕ) → HasNoLineFeed xs → take_through 10 xs ≡ xs
take_through-none [] h = refl
take_through-none (x ∷ xs) h = rw h.0 (ap (λ (t : List ℕ). x ∷ t) (take_through-none xs h.1))

pub take_through-line : (xs rest : List ℕ) → HasNoLineFeed xs → take_through 10 (xs ++ 10 ∷ rest) ≡ terminated xs
take_through-line [] rest h = refl
take_through-line (x ∷ xs) rest h = rw h.0 (ap (λ (t : List ℕ). x ∷ t) (take_through-line xs rest h.1))

-- what is taken of a piece, by where its first LF is
pub through-whole : (piece : List ℕ) (end : ℕ) → IsLineEnd piece end → end < length piece → take_through 10 piece ≡ terminated (take end piece)
through-whole piece end h lt =
    let parts : piece ≡ take end piece ++ (10 ∷ drop (end + 1) piece) = sym (take-append-drop (end + 1) piece) ∙ ap (λ (t : List ℕ). t ++ drop (end + 1) piece) (h.there lt) ∙ append_assoc (take end piece) (10 ∷ []) (drop (end + 1) piece) in
    ap (take_through 10) parts ∙ take_through-line (take end piece) (drop (end + 1) piece) h.before

pub through-all : (piece : List ℕ) (end : ℕ) → IsLineEnd piece end → end ≡ length piece → take_through 10 piece ≡ take end piece
through-all piece end h e =
    let whole : take end piece ≡ piece = take_all end piece (omega arith) in
    let none : HasNoLineFeed piece = rw whole at h.before in
    take_through-none piece none ∙ sym whole

-- the front of what was held and the piece, where the piece fills the room
pub take-room : (old piece : List ℕ) (room limit : ℕ) → length old + room ≡ limit → room ≤ length piece → take limit (old ++ piece) ≡ old ++ take room piece
take-room old piece room limit e le =
    let len : length (old ++ take room piece) ≡ limit = omega (arith, length-append old (take room piece), length-take-le room piece le) in
    ap (λ (t : List ℕ). take limit (old ++ t)) (sym (take-append-drop room piece)) ∙ ap (take limit) (sym (append_assoc old (take room piece) (drop room piece))) ∙ take_at (old ++ take room piece) (drop room piece) limit len

pub take-take-le : (n m : ℕ) (xs : List ℕ) → n ≤ m → HasNoLineFeed (take m xs) → HasNoLineFeed (take n xs)
take-take-le n m xs le h = let e : take n (take m xs) ≡ take n xs = take-take n m xs le in rw e at (HasNoLineFeed-take n (take m xs) h)

-- bytes that fill the room, and what follows them
pub IsTooLong-full : (full rest : List ℕ) → HasNoLineFeed full → length full ≡ line_limit → IsTooLong (full ++ rest)
IsTooLong-full full rest h e = record {
  endless = rw (take_at full rest line_limit e) h;
  long = omega (arith, length-append full rest);
}

-- at the end of `extend_line`
pub fills : (old piece new : List ℕ) (room end : ℕ) → HasNoLineFeed old → length old + room ≡ line_limit → IsLineEnd piece end → room ≤ end → new ≡ old ++ take room piece → HasNoLineFeed new × (length new ≡ line_limit)
fills old piece new room end none e h le is =
    rw is (HasNoLineFeed-append old (take room piece) none (take-take-le room end piece le h.before), (let within = h.within in omega (arith, length-append old (take room piece), length-take-le room piece (omega arith))))

pub grows-whole : (old piece new : List ℕ) (end : ℕ) → IsLineEnd piece end → end < length piece → new ≡ old ++ take end piece → (terminated new ≡ old ++ take_through 10 piece) × (end + 1 ≡ length (take_through 10 piece))
grows-whole old piece new end h lt is =
    let e = through-whole piece end h lt in (
      rw (e, is) (append_assoc old (take end piece) (10 ∷ [])),
      rw e (omega (arith, length-append (take end piece) (10 ∷ []), length-take-le end piece (omega arith))),
    )

pub grows-all : (old piece new : List ℕ) (end : ℕ) → IsLineEnd piece end → end ≡ length piece → new ≡ old ++ take end piece → (new ≡ old ++ take_through 10 piece) × (end ≡ length (take_through 10 piece))
grows-all old piece new end h whole is =
    let e = through-all piece end h whole in (
      rw e is,
      rw e (omega (arith, length-take-le end piece (omega arith))),
    )

-- ---- what `feed` finds, and what it leaves

pub partial-is : (stage : LineState) (bytes held : List ℕ) → stage ≡ Partial → at_stage stage bytes ≡ held → AreHeld stage bytes → (bytes ≡ held) × HasNoLineFeed held
partial-is Partial bytes held e v h = (v, subst HasNoLineFeed v h.0)
partial-is _ bytes held e v h = absurd cc

pub spent-is : (stage : LineState) (bytes held cleared : List ℕ) → stage ≡ Spent → at_stage stage bytes ≡ held → cleared ≡ [] → (cleared ≡ held) × HasNoLineFeed held
spent-is Spent bytes held cleared e v h = (h ∙ v, subst HasNoLineFeed v tt)
spent-is _ bytes held cleared e v h = absurd cc

extends-by : (stage : LineState) (old piece new : List ℕ) (n : ℕ) → (stage ≡ TooLong → ⊥) → GoesOnWith old piece stage n new → (at_stage stage new ≡ old ++ take_through 10 piece) × (n ≡ length (take_through 10 piece))
extends-by TooLong old piece new n not h = absurd (not refl)
extends-by _ old piece new n not h = h

pub takes : (stage : LineState) (old held piece new : List ℕ) (n : ℕ) → (old ≡ held) × HasNoLineFeed held → (stage ≡ TooLong → ⊥) → GoesOnWith old piece stage n new
    → (n ≡ length (bytes_fed held piece)) × (at_stage stage new ≡ held ++ bytes_fed held piece)
takes stage old held piece new n is not h =
    let e = extends-by stage old piece new n not h in
    rw (any-none held is.1, ← is.0) (e.1, e.0)

pub overflows : (stage : LineState) (old held piece new : List ℕ) (n : ℕ) → (old ≡ held) × HasNoLineFeed held → stage ≡ TooLong → GoesOnWith old piece stage n new → AreHeld stage new
    → IsTooLong (held ++ piece) × (at_stage stage new ≡ take line_limit (held ++ piece))
overflows TooLong old held piece new n is e h full =
    rw (← is.0) (record { endless = subst HasNoLineFeed h full.0; long = let m = length-take line_limit (old ++ piece) in let k = ap length h in omega (arith, m, k, full.1) }, h)
overflows Partial old held piece new n is e h full = absurd cc
overflows Whole old held piece new n is e h full = absurd cc
overflows Spent old held piece new n is e h full = absurd cc

-- a stream that was too long stays so
pub stays_too_long : (stage : LineState) (bytes held piece : List ℕ) → stage ≡ TooLong → at_stage stage bytes ≡ held → AreHeld stage bytes → IsTooLong (held ++ piece) × (held ≡ take line_limit (held ++ piece))
stays_too_long TooLong bytes held piece e v h =
    rw (← v) (IsTooLong-full bytes piece h.0 h.1, sym (take_at bytes piece line_limit h.1))
stays_too_long Partial bytes held piece e v h = absurd cc
stays_too_long Whole bytes held piece e v h = absurd cc
stays_too_long Spent bytes held piece e v h = absurd cc

-- what waits is returned before more is taken
pub waits : (stage : LineState) (bytes held : List ℕ) → stage ≡ Whole → at_stage stage bytes ≡ held → list_any (λ b. eqb b 10) held ≡ true
waits Whole bytes held e v = rw (← v) (any-terminated bytes [])
waits _ bytes held e v = absurd cc

pub too_long_held : (stage : LineState) (bytes held : List ℕ) → stage ≡ TooLong → at_stage stage bytes ≡ held → AreHeld stage bytes → IsTooLong held
too_long_held stage bytes held e v h = let t = stays_too_long stage bytes held [] e v h in rw append-nil at t.0

-- ---- what is taken is a prefix of the piece

pub record IsFront (front piece : List ℕ) : Type 0 where
  pub is : take (length front) piece ≡ front
  pub within : length front ≤ length piece

front_cons : (b : ℕ) (front piece : List ℕ) → IsFront front piece → IsFront (b ∷ front) (b ∷ piece)
front_cons b front piece h = record { is = ap (λ (t : List ℕ). b ∷ t) h.is; within = let within = h.within in omega arith }

through-front : (piece : List ℕ) → IsFront (take_through 10 piece) piece
through-front [] = record { is = refl; within = omega arith }
through-front (b ∷ piece) = go (eqb b 10) (through-front piece)
  where
    go : (feed : Bool) → IsFront (take_through 10 piece) piece → IsFront (cond feed (b ∷ []) (b ∷ take_through 10 piece)) (b ∷ piece)
    go true h = record { is = refl; within = omega arith }
    go false h = front_cons b (take_through 10 piece) piece h

pub taken-front : (held piece : List ℕ) → IsFront (bytes_fed held piece) piece
taken-front held piece = go (list_any (λ b. eqb b 10) held)
  where
    go : (waits : Bool) → IsFront (cond waits [] (take_through 10 piece)) piece
    go true = record { is = refl; within = omega arith }
    go false = through-front piece

through-some : (piece : List ℕ) → 0 < length piece → 0 < length (take_through 10 piece)
through-some [] h = h
through-some (b ∷ piece) h = go (eqb b 10)
  where
    go : (feed : Bool) → 0 < length (cond feed (b ∷ []) (b ∷ take_through 10 piece))
    go true = omega arith
    go false = omega arith

pub taken-some : (held piece : List ℕ) → HasNoLineFeed held → 0 < length piece → 0 < length (bytes_fed held piece)
taken-some held piece none some = rw (any-none held none) (through-some piece some)

-- ---- what is not too long

no_feed_within : (n : ℕ) (line rest : List ℕ) → length line < n → HasNoLineFeed (take n (line ++ 10 ∷ rest)) → ⊥
no_feed_within zero line rest lt h = omega arith
no_feed_within (suc n) [] rest lt h = absurd cc
no_feed_within (suc n) (x ∷ line) rest lt h = no_feed_within n line rest (omega arith) h.1

line_not_too_long : (line rest : List ℕ) → IsLine line → IsTooLong (terminated line ++ rest) → ⊥
line_not_too_long line rest is long =
    no_feed_within line_limit line rest is.short (subst (λ (t : List ℕ). HasNoLineFeed (take line_limit t)) (append_assoc line (10 ∷ []) rest) long.endless)

-- while a line waits, nothing is too long
pub waits_not_too_long : (stage : LineState) (bytes held piece : List ℕ) → stage ≡ Whole → at_stage stage bytes ≡ held → AreHeld stage bytes → IsTooLong (held ++ piece) → ⊥
waits_not_too_long Whole bytes held piece e v h long = line_not_too_long bytes piece h (subst (λ (t : List ℕ). IsTooLong (t ++ piece)) (sym v) long)
waits_not_too_long _ bytes held piece e v h long = absurd cc

HasNoLineFeed-back : (xs ys : List ℕ) → HasNoLineFeed (xs ++ ys) → HasNoLineFeed ys
HasNoLineFeed-back [] ys h = h
HasNoLineFeed-back (x ∷ xs) ys h = HasNoLineFeed-back xs ys h.1

through-no_feed : (piece : List ℕ) → HasNoLineFeed (take_through 10 piece) → take_through 10 piece ≡ piece
through-no_feed [] h = refl
through-no_feed (b ∷ piece) h = go (eqb b 10) refl (through-no_feed piece) h
  where
    go : (feed : Bool) → eqb b 10 ≡ feed → (HasNoLineFeed (take_through 10 piece) → take_through 10 piece ≡ piece) → HasNoLineFeed (cond feed (b ∷ []) (b ∷ take_through 10 piece)) → cond feed (b ∷ []) (b ∷ take_through 10 piece) ≡ b ∷ piece
    go true e rest h = absurd cc
    go false e rest h = ap (λ (t : List ℕ). b ∷ t) (rest h.1)

-- what was taken whole is not too long
pub takes_not_too_long : (stage : LineState) (old held piece new : List ℕ) (n : ℕ) → (old ≡ held) × HasNoLineFeed held → (stage ≡ TooLong → ⊥) → GoesOnWith old piece stage n new → AreHeld stage new → IsTooLong (held ++ piece) → ⊥
takes_not_too_long TooLong old held piece new n is not h full long = not refl
takes_not_too_long Partial old held piece new n is not h full long =
    let whole = through-no_feed piece (HasNoLineFeed-back old (take_through 10 piece) (subst HasNoLineFeed h.0 full.0)) in
    let same : new ≡ held ++ piece = h.0 ∙ ap (λ (t : List ℕ). old ++ t) whole ∙ ap (λ (t : List ℕ). t ++ piece) is.0 in
    let at_least = long.long in
    omega (arith, ap length same, full.1)
takes_not_too_long Whole old held piece new n is not h full long =
    let front = through-front piece in
    let k = length (take_through 10 piece) in
    let parts : held ++ piece ≡ terminated new ++ drop k piece =
    ap (λ (t : List ℕ). held ++ t) (sym (take-append-drop k piece) ∙ ap (λ (t : List ℕ). t ++ drop k piece) front.is)
    ∙ sym (append_assoc held (take_through 10 piece) (drop k piece))
    ∙ ap (λ (t : List ℕ). (t ++ take_through 10 piece) ++ drop k piece) (sym is.0)
    ∙ ap (λ (t : List ℕ). t ++ drop k piece) (sym h.0) in
    line_not_too_long new (drop k piece) full (subst IsTooLong parts long)
takes_not_too_long Spent old held piece new n is not h full long =
    let at_least = long.long in
    omega (arith, ap length h.0, length-append old (take_through 10 piece), through-some piece, ap length is.0, length-append held piece)

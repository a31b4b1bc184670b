-- What was drained of each seat, gathered by the place of the seat's first transcript.
use Rattle.std.proofs.Common.{◌≡◌, ◌⊎◌, inl, inr, ℕ, ◌+◌, ◌<◌, ◌≤◌, Bool, true, false, List, [], ◌∷◌, ◌++◌, length, get_or, set, take, drop, take_all, cond, nat_eq, eq-eqb, Option, Some, None, refl, sym, ap, ◌∙◌, subst, arith}
use Rattle.std.specs.Prelude.{slice_get, is_some, All, MatchOption}
use Rattle.std.specs.List.{filter, flat_map}
use Rattle.std.proofs.lemmas.List.{append-nil, drop_all, length-set}
use Rattle.std.proofs.lemmas.List.Concat.{flat_map-append}
use Rattle.std.proofs.lemmas.List.Elements.{filter-append}
use Rattle.std.proofs.lemmas.Option.{same_Some, get_or_from_slice_get, slice_get_within, slice_get_cases}
use Rattle.std.proofs.lemmas.Bool.{cases_lt, eqb-true, eqb-false, ne_eqb}
use Rattle.indexmap.specs.IndexMap.{IndexMap, get}
use Rattle.entry_list.specs.declared.kinds.Entry.{Entry}
use Rattle.entry_list.specs.PackedEntries.{EntriesView}
use Rattle.closed_store.specs.declared.transcript.Transcript.{Transcript}
use Rattle.closed_store.proofs.Below.{AreDone, done_all, slice_get-set_same, slice_get-set_other}
use Rattle.closed_store.specs.Filling.{NoneBefore, IsFilled, AreFilled, IsFirstPlace, AreFirstPlaces, is_found_at, drained_of, drained_to, AreGathered, IsAppended, ArePut, AreEmpty}

-- ---- one transcript more

module _ (transcripts : List Transcript) (place : ℕ) (transcript : Transcript) (here : slice_get transcripts place ≡ Some transcript) where
  the_one : (n : ℕ) (other : Transcript) → n ≡ place → slice_get transcripts n ≡ Some other → transcript ≡ other
  the_one n other is at = same_Some transcript other (sym here ∙ ap (slice_get transcripts) (sym is) ∙ at)

  none_more : (seat : ℕ) → NoneBefore transcripts seat place → (transcript.seat ≡ seat → ⊥) → NoneBefore transcripts seat (place + 1)
  none_more seat none apart earlier other under at its = go (cases_lt earlier place)
    where
      go : (earlier < place) ⊎ (place ≤ earlier) → ⊥
      go (inl h) = none earlier other h at its
      go (inr h) = apart (ap (λ (t : Transcript). t.seat) (the_one earlier other (omega (arith, under, h)) at) ∙ its)

  -- a seat that has a place keeps it
  pub places_kept : {S : Type 0} (places : IndexMap ℕ ℕ S) → AreFirstPlaces transcripts place places → is_some (get nat_eq places transcript.seat) ≡ true
      → AreFirstPlaces transcripts (place + 1) places
  places_kept places are known seat = go (get nat_eq places seat) refl (are seat)
    where
      go : (o : Option ℕ) → get nat_eq places seat ≡ o → MatchOption o (NoneBefore transcripts seat place) (IsFirstPlace transcripts seat)
          → MatchOption o (NoneBefore transcripts seat (place + 1)) (IsFirstPlace transcripts seat)
      go None is none =
          none_more seat none (λ same. let bad : false ≡ true = ap (λ (o : Option ℕ). is_some o) (sym is) ∙ ap (λ s. is_some (get nat_eq places s)) (sym same) ∙ known in cc)
      go (Some slot) is its = its

  -- the seat's first transcript
  pub places_added : {S : Type 0} (old new : IndexMap ℕ ℕ S) → AreFirstPlaces transcripts place old → is_some (get nat_eq old transcript.seat) ≡ false
      → ((seat : ℕ) → get nat_eq new seat ≡ cond (nat_eq transcript.seat seat) (Some place) (get nat_eq old seat)) → AreFirstPlaces transcripts (place + 1) new
  places_added old new are unknown told seat =
      subst (λ o. MatchOption o (NoneBefore transcripts seat (place + 1)) (IsFirstPlace transcripts seat)) (sym (told seat)) (go (nat_eq transcript.seat seat) refl)
    where
      unseen : (o : Option ℕ) → is_some o ≡ false → MatchOption o (NoneBefore transcripts transcript.seat place) (IsFirstPlace transcripts transcript.seat)
          → NoneBefore transcripts transcript.seat place
      unseen None is none = none
      unseen (Some slot) is its = absurd (let bad : true ≡ false = is in cc)

      kept : (o : Option ℕ) → (transcript.seat ≡ seat → ⊥) → MatchOption o (NoneBefore transcripts seat place) (IsFirstPlace transcripts seat)
          → MatchOption o (NoneBefore transcripts seat (place + 1)) (IsFirstPlace transcripts seat)
      kept None apart none = none_more seat none apart
      kept (Some slot) apart its = its

      go : (b : Bool) → nat_eq transcript.seat seat ≡ b → MatchOption (cond b (Some place) (get nat_eq old seat)) (NoneBefore transcripts seat (place + 1)) (IsFirstPlace transcripts seat)
      go true is =
          let same : transcript.seat ≡ seat = eqb-true transcript.seat seat is in record {
            transcript = transcript;
            there = here;
            its = same;
            first = subst (λ s. NoneBefore transcripts s place) same (unseen (get nat_eq old transcript.seat) unknown (are transcript.seat));
          }
      go false is = kept (get nat_eq old seat) (λ same. let bad : true ≡ false = sym (eq-eqb transcript.seat seat same) ∙ is in cc) (are seat)

-- ---- one list more

all_at : {X : Type 0} (P : X → Type 0) (xs : List X) → All P xs → (n : ℕ) (x : X) → slice_get xs n ≡ Some x → P x
all_at P xs all n x at = subst P (get_or_from_slice_get xs n x x at) (all n x (slice_get_within xs n x at))

pub empty_gathered : {S : Type 0} (places : IndexMap ℕ ℕ S) (count : ℕ) (lists : List EntriesView) → AreEmpty lists → length lists ≡ count → AreGathered places [] count lists
empty_gathered places count lists empty many = record {
  each = all_at (λ (list : EntriesView). list.items ≡ []) lists empty;
  as_many = many;
}

module _ {S : Type 0} (places : IndexMap ℕ ℕ S) (yielded : List (ℕ × EntriesView)) (d : ℕ × EntriesView) where
  one : (b : Bool) → flat_map (λ (x : ℕ × EntriesView). x.1.items) (cond b (d ∷ []) []) ≡ cond b d.1.items []
  one true = append-nil d.1.items
  one false = refl

  drained_more : (place : ℕ) → drained_to places (yielded ++ d ∷ []) place ≡ drained_to places yielded place ++ cond (is_found_at place (get nat_eq places d.0)) d.1.items []
  drained_more place =
      let test : ℕ × EntriesView → Bool = λ x. is_found_at place (get nat_eq places x.0) in
      let of : ℕ × EntriesView → List Entry = λ x. x.1.items in
      ap (flat_map of) (filter-append test yielded (d ∷ []))
      ∙ flat_map-append of (filter test yielded) (filter test (d ∷ []))
      ∙ ap (λ es. drained_to places yielded place ++ es) (one (test d))

  pub gathered_more : (count to : ℕ) (old new : List EntriesView) → get nat_eq places d.0 ≡ Some to → AreGathered places yielded count old → IsAppended old new to d.1.items
      → AreGathered places (yielded ++ d ∷ []) count new
  gathered_more count to old new known are appended = record {
    each = λ place list at.
        let was = appended.each place list at in
        was.2 ∙ ap (λ es. es ++ cond (nat_eq to place) d.1.items []) (are.each place was.0 was.1)
        ∙ sym (drained_more place ∙ ap (λ o. drained_to places yielded place ++ cond (is_found_at place o) d.1.items []) known);
    as_many = appended.as_many ∙ are.as_many;
  }

  pub gathered_none : (count : ℕ) (lists : List EntriesView) → get nat_eq places d.0 ≡ None → AreGathered places yielded count lists → AreGathered places (yielded ++ d ∷ []) count lists
  gathered_none count lists unknown are = record {
    each = λ place list at.
        are.each place list at
        ∙ sym (drained_more place ∙ ap (λ o. drained_to places yielded place ++ cond (is_found_at place o) d.1.items []) unknown ∙ append-nil (drained_to places yielded place));
    as_many = are.as_many;
  }

-- ---- one list put behind another

module _ (old : List EntriesView) (place : ℕ) (more : List Entry) where
  pub not_appended : length old ≤ place → IsAppended old old place more
  not_appended past = record {
    each = λ other list at.
        let within = slice_get_within old other list at in
        let apart : nat_eq place other ≡ false = ne_eqb place other (λ same. omega (arith, past, within, same)) in
        (list, at, sym (ap (λ b. list.items ++ cond b more []) apart ∙ append-nil list.items));
    as_many = refl;
  }

  pub is_appended : (from put : EntriesView) → place < length old → slice_get old place ≡ Some from → put.items ≡ from.items ++ more → IsAppended old (set old place put) place more
  is_appended from put within here is = record {
    each = λ other list at. go other list at (nat_eq place other) refl;
    as_many = length-set old place put;
  }
    where
      go : (other : ℕ) (list : EntriesView) → slice_get (set old place put) other ≡ Some list → (b : Bool) → nat_eq place other ≡ b
          → (before : EntriesView) × (slice_get old other ≡ Some before) × (list.items ≡ before.items ++ cond (nat_eq place other) more [])
      go other list at true b =
          let same : place ≡ other = eqb-true place other b in
          let put_is : put ≡ list = same_Some put list (sym (slice_get-set_same old place put within) ∙ ap (slice_get (set old place put)) same ∙ at) in
          (from, ap (slice_get old) (sym same) ∙ here, ap (λ (l : EntriesView). l.items) (sym put_is) ∙ is ∙ ap (λ c. from.items ++ cond c more []) (sym b))
      go other list at false b =
          let apart : other ≡ place → ⊥ = λ same. eqb-false place other b (sym same) in
          (list, sym (slice_get-set_other old place other put apart) ∙ at, sym (ap (λ c. list.items ++ cond c more []) b ∙ append-nil list.items))

no_items : {X : Type 0} (xs : List X) → length xs ≡ 0 → xs ≡ []
no_items [] none = refl
no_items (x ∷ xs) none = absurd (omega (arith, none))

pub nothing_put : (before : List Entry) (t : Transcript) → length before ≡ 0 → IsFilled before t t
nothing_put before t none = record {
  entries = ap (λ es. es ++ t.entries.items) (sym (no_items before none));
  tenant = refl;
  client = refl;
  turn = refl;
  seat = refl;
  base = refl;
  counter = refl;
}

-- a list of which the whole was lent, once it is given back
pub written_back : {X : Type 0} (new old : List X) (n : ℕ) → length new ≡ length old → n ≡ length old → take n (new ++ drop (length new) old) ≡ new
written_back new old n same many =
    ap (λ ys. take n (new ++ ys)) (drop_all (length new) old (omega (arith, same))) ∙ ap (take n) (append-nil new) ∙ take_all n new (omega (arith, same, many))

-- ---- all together

filter_same : {X : Type 0} (p q : X → Bool) → ((x : X) → p x ≡ q x) → (xs : List X) → filter p xs ≡ filter q xs
filter_same p q same [] = refl
filter_same p q same (x ∷ xs) =
    ap (λ b. cond b (x ∷ filter p xs) (filter p xs)) (same x) ∙ ap (λ ys. cond (q x) (x ∷ ys) ys) (filter_same p q same xs)

filter_none : {X : Type 0} (p : X → Bool) → ((x : X) → p x ≡ false) → (xs : List X) → filter p xs ≡ []
filter_none p none [] = refl
filter_none p none (x ∷ xs) = ap (λ b. cond b (x ∷ filter p xs) (filter p xs)) (none x) ∙ filter_none p none xs

module _ {S : Type 0} (places : IndexMap ℕ ℕ S) (transcripts : List Transcript) (drained : List (ℕ × EntriesView)) (are : AreFirstPlaces transcripts (length transcripts) places) where
  module _ (p : ℕ) (t : Transcript) (here : slice_get transcripts p ≡ Some t) where
    at_first : NoneBefore transcripts t.seat p → (seat : ℕ) → is_found_at p (get nat_eq places seat) ≡ nat_eq seat t.seat
    at_first none seat = go (get nat_eq places seat) (are seat)
      where
        here_or : (q : ℕ) → IsFirstPlace transcripts seat q → (q < p) ⊎ (p ≤ q) → (p < q) ⊎ (q ≤ p) → nat_eq q p ≡ nat_eq seat t.seat
        here_or q its (inl less) o =
            ne_eqb q p (λ same. omega (arith, less, same)) ∙ sym (ne_eqb seat t.seat (λ same. none q its.transcript less its.there (its.its ∙ same)))
        here_or q its (inr le) (inl more) =
            ne_eqb q p (λ same. omega (arith, more, same)) ∙ sym (ne_eqb seat t.seat (λ same. its.first p t more here (sym same)))
        here_or q its (inr le) (inr ge) =
            let is : q ≡ p = omega (arith, le, ge) in
            eq-eqb q p is ∙ sym (eq-eqb seat t.seat (sym its.its ∙ ap (λ (x : Transcript). x.seat) (sym (the_one transcripts p t here q its.transcript is its.there))))

        go : (o : Option ℕ) → MatchOption o (NoneBefore transcripts seat (length transcripts)) (IsFirstPlace transcripts seat) → is_found_at p o ≡ nat_eq seat t.seat
        go None nobody = sym (ne_eqb seat t.seat (λ same. nobody p t (slice_get_within transcripts p t here) here (sym same)))
        go (Some q) its = here_or q its (cases_lt q p) (cases_lt p q)

    at_later : (NoneBefore transcripts t.seat p → ⊥) → (seat : ℕ) → is_found_at p (get nat_eq places seat) ≡ false
    at_later some seat = go (get nat_eq places seat) (are seat)
      where
        first_here : (q : ℕ) → IsFirstPlace transcripts seat q → q ≡ p → NoneBefore transcripts t.seat p
        first_here q its is =
            let seat_is : seat ≡ t.seat = sym its.its ∙ ap (λ (x : Transcript). x.seat) (sym (the_one transcripts p t here q its.transcript is its.there)) in
            subst (λ n. NoneBefore transcripts t.seat n) is (subst (λ s. NoneBefore transcripts s q) seat_is its.first)

        go : (o : Option ℕ) → MatchOption o (NoneBefore transcripts seat (length transcripts)) (IsFirstPlace transcripts seat) → is_found_at p o ≡ false
        go None nobody = refl
        go (Some q) its = ne_eqb q p (λ same. some (first_here q its same))

    drained_first : NoneBefore transcripts t.seat p → drained_to places drained p ≡ drained_of drained t.seat
    drained_first none =
        ap (flat_map (λ (d : ℕ × EntriesView). d.1.items))
        (filter_same (λ (d : ℕ × EntriesView). is_found_at p (get nat_eq places d.0)) (λ (d : ℕ × EntriesView). nat_eq d.0 t.seat) (λ d. at_first none d.0) drained)

    drained_later : (NoneBefore transcripts t.seat p → ⊥) → drained_to places drained p ≡ []
    drained_later some =
        ap (flat_map (λ (d : ℕ × EntriesView). d.1.items))
        (filter_none (λ (d : ℕ × EntriesView). is_found_at p (get nat_eq places d.0)) (λ d. at_later some d.0) drained)

    one_filled : (lists : List EntriesView) (new : List Transcript) (before : List Entry) → AreGathered places drained (length transcripts) lists → ArePut lists transcripts new
        → drained_to places drained p ≡ before → (filled : Transcript) × (slice_get new p ≡ Some filled) × IsFilled before t filled
    one_filled lists new before gathered put is = go (slice_get_cases lists p).1
      where
        go : ((x : EntriesView) × (p < length lists) × (slice_get lists p ≡ Some x) × (get_or lists p x ≡ x)) ⊎ ((length lists ≤ p) × (slice_get lists p ≡ None))
            → (filled : Transcript) × (slice_get new p ≡ Some filled) × IsFilled before t filled
        go (inl found) =
            let one = put.each p t found.0 here found.2 in
            (one.0, one.1, subst (λ es. IsFilled es t one.0) (gathered.each p found.0 found.2 ∙ is) one.2)
        go (inr past) =
            let within : p < length transcripts = slice_get_within transcripts p t here in
            let many : length lists ≡ length transcripts = gathered.as_many in
            absurd (omega (arith, past.0, within, many))

  pub all_filled : (lists : List EntriesView) (new : List Transcript) → AreGathered places drained (length transcripts) lists → ArePut lists transcripts new → AreFilled drained transcripts new
  all_filled lists new gathered put = record {
    first = λ p t here none. one_filled p t here lists new (drained_of drained t.seat) gathered put (drained_first p t here none);
    later = λ p t here some. one_filled p t here lists new [] gathered put (drained_later p t here some);
    as_many = put.as_many;
  }

-- ---- one transcript after the other

-- the list at this place stands before the transcript's entries
abbrev pub HasList : List EntriesView → ℕ → Transcript → Transcript → Type 0
HasList lists place old new = (list : EntriesView) → slice_get lists place ≡ Some list → IsFilled list.items old new

pub has_list : (lists : List EntriesView) (place : ℕ) (list : EntriesView) (old new : Transcript) → slice_get lists place ≡ Some list → IsFilled list.items old new → HasList lists place old new
has_list lists place list old new at filled other at' = subst (λ (l : EntriesView). IsFilled l.items old new) (same_Some list other (sym at ∙ at')) filled

pub all_put : (lists : List EntriesView) (old new : List Transcript) (n : ℕ) → length old ≤ n → length new ≡ length old → AreDone (HasList lists) old new n → ArePut lists old new
all_put lists old new n long many are = record {
  each = λ place t list at at'. let one = done_all (HasList lists) old new n long are place t at in (one.0, one.1, one.2 list at');
  as_many = many;
}

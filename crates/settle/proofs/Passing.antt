-- One transcript more is passed over: the first of each seat, the last of each client, and the session before each.
use Rattle.std.proofs.Common.{◌≡◌, ◌+◌, ◌<◌, ◌⊎◌, ◌↔◌, ℕ, zero, suc, List, [], ◌∷◌, ◌++◌, Bool, true, false, cond, nat_eq, length-append, eq-eqb, inl, inr, length, slice_get, Some, None, Option, Result, Ok, Err, refl, sym, ap, ◌∙◌, subst, arith, IsTrue}
use Rattle.std.specs.Prelude.{MatchOption, OnOk, is_some, is_err}
use Rattle.std.proofs.lemmas.Bool.{cases_lt, eqb-true}
use Rattle.std.proofs.lemmas.Option.{slice_get_within}
use Rattle.indexmap.specs.IndexMap.{IndexMap, get}
use Rattle.closed_store.specs.declared.transcript.Transcript.{Transcript}
use Rattle.settle.specs.Fronts.{ComesBefore}
use Rattle.settle.specs.Standing.{IsOfSeat, NoneOfSeat, IsSlot}
use Rattle.settle.specs.Sessions.{IsOfTenant, IsLater, AreSlots, NoneOfClient, IsLast, AreLast, IsRightBefore, IsLastBefore, EachBefore, AreBefore}
use Rattle.settle.proofs.Words.{some_is}

-- below one more is below, or the last
below_one : (i n : ℕ) → i < n + 1 → (i < n) ⊎ (i ≡ n)
below_one i n h = elim (cases_lt i n) [
  | inl k ↦ inl k
  | inr k ↦ inr (omega (arith, h, k))
]

-- ---- the order of sessions

pub irreflexive : (i : ℕ) (t : Transcript) → ComesBefore i t i t → ⊥
irreflexive i t before = elim before.1 [
  | inl h ↦ omega (arith, h)
  | inr h ↦ omega (arith, h.1)
]

pub transitive : (i j k : ℕ) (a b c : Transcript) → ComesBefore i a j b → ComesBefore j b k c → ComesBefore i a k c
transitive i j k a b c one other = (
  one.0 ∙ other.0,
  elim one.1 [
    | inl h ↦ elim other.1 [
      | inl g ↦ inl (omega (arith, h, g))
      | inr g ↦ inl (omega (arith, h, g.0))
    ]
    | inr h ↦ elim other.1 [
      | inl g ↦ inl (omega (arith, h.0, g))
      | inr g ↦ inr (h.0 ∙ g.0, omega (arith, h.1, g.1))
    ]
  ],
)

-- two sessions of a client are one, or one of them comes before the other
pub total : (i j : ℕ) (a b : Transcript) → a.client ≡ b.client → (ComesBefore i a j b → ⊥) → (j ≡ i) ⊎ ComesBefore j b i a
total i j a b same apart = elim (cases_lt b.turn a.turn) [
  | inl h ↦ inr (sym same, inl h)
  | inr h ↦ elim (cases_lt a.turn b.turn) [
    | inl g ↦ absurd (apart (same, inl g))
    | inr g ↦
        let turn : b.turn ≡ a.turn = omega (arith, h, g) in
        elim (cases_lt j i) [
          | inl k ↦ inr (sym same, inr (turn, k))
          | inr k ↦ elim (cases_lt i j) [
            | inl l ↦ absurd (apart (same, inr (sym turn, l)))
            | inr l ↦ inl (omega (arith, k, l))
          ]
        ]
  ]
]

-- ---- results and lists

pub is_ok : {A E P : Type 0} (r : Result A E) → is_err r ≡ false → OnOk r P → P
is_ok (Ok x) ok h = h
is_ok (Err e) ok h = absurd (let bad : true ≡ false = ok in cc)

pushed_length : {X : Type 0} (xs : List X) (x : X) → length (xs ++ x ∷ []) ≡ length xs + 1
pushed_length xs x = length-append xs (x ∷ [])

pushed_at : {X : Type 0} (xs : List X) (x : X) (n : ℕ) (y : X) → slice_get (xs ++ x ∷ []) n ≡ Some y → ((n ≡ length xs) × (x ≡ y)) ⊎ (slice_get xs n ≡ Some y)
pushed_at [] x zero y at = inl (refl, some_is x y at)
pushed_at [] x (suc n) y at = absurd (let bad : None ≡ Some y = at in cc)
pushed_at (z ∷ xs) x zero y at = inr at
pushed_at (z ∷ xs) x (suc n) y at = elim (pushed_at xs x n y at) [
  | inl h ↦ inl (omega (arith, h.0), h.1)
  | inr h ↦ inr h
]

-- ---- one transcript more

-- what stands right before stays, where the next does not come before
pub before_more : (transcripts : List Transcript) (tenant n place : ℕ) (transcript : Transcript) (o : Option ℕ) → IsLastBefore transcripts tenant n place transcript o
    → ((u : Transcript) → IsOfTenant transcripts tenant n u → ComesBefore n u place transcript → ⊥) → IsLastBefore transcripts tenant (n + 1) place transcript o
before_more transcripts tenant n place transcript None none apart = λ i other within its comes. elim (below_one i n within) [
  | inl h ↦ none i other h its comes
  | inr h ↦ apart other (subst (λ k. IsOfTenant transcripts tenant k other) h its) (subst (λ k. ComesBefore k other place transcript) h comes)
]
before_more transcripts tenant n place transcript (Some p) right apart = record {
  session = right.session;
  its = right.its;
  before = right.before;
  last = λ i other within its comes. elim (below_one i n within) [
    | inl h ↦ right.last i other h its comes
    | inr h ↦ absurd (apart other (subst (λ k. IsOfTenant transcripts tenant k other) h its) (subst (λ k. ComesBefore k other place transcript) h comes))
  ];
}

pub each_pushed_to : (transcripts : List Transcript) (tenant count : ℕ) (befores : List (Option ℕ)) (o : Option ℕ) → EachBefore transcripts tenant count befores
    → ((t : Transcript) → IsOfTenant transcripts tenant (length befores) t → IsLastBefore transcripts tenant count (length befores) t o) → EachBefore transcripts tenant count (befores ++ o ∷ [])
each_pushed_to transcripts tenant count befores o each new p t found its at = elim (pushed_at befores o p found at) [
  | inl h ↦ subst (IsLastBefore transcripts tenant count p t) h.1 (subst (λ n. IsLastBefore transcripts tenant count n t o) (sym h.0) (new t (subst (λ n. IsOfTenant transcripts tenant n t) h.0 its)))
  | inr h ↦ each p t found its h
]

module _ (transcripts : List Transcript) (tenant place : ℕ) (transcript : Transcript) (here : slice_get transcripts place ≡ Some transcript) where
  before_wider : (p : ℕ) (t : Transcript) (o : Option ℕ) → IsLastBefore transcripts tenant place p t o → ((u : Transcript) → IsOfTenant transcripts tenant place u → ComesBefore place u p t → ⊥) → IsLastBefore transcripts tenant (place + 1) p t o
  before_wider p t o before apart = before_more transcripts tenant place p t o before apart

  each_pushed : (befores : List (Option ℕ)) (o : Option ℕ) (count : ℕ) → EachBefore transcripts tenant count befores
      → ((t : Transcript) → IsOfTenant transcripts tenant (length befores) t → IsLastBefore transcripts tenant count (length befores) t o) → EachBefore transcripts tenant count (befores ++ o ∷ [])
  each_pushed befores o count = each_pushed_to transcripts tenant count befores o

  -- the last of a client stays, where the next is not the client's
  last_wider : (client : ℕ) (o : Option ℕ) → MatchOption o (NoneOfClient transcripts tenant place client) (IsLast transcripts tenant place client)
      → ((other : Transcript) → IsOfTenant transcripts tenant place other → other.client ≡ client → ⊥) → MatchOption o (NoneOfClient transcripts tenant (place + 1) client) (IsLast transcripts tenant (place + 1) client)
  last_wider client None none apart = λ i other within its same. elim (below_one i place within) [
    | inl h ↦ none i other h its same
    | inr h ↦ apart other (subst (λ k. IsOfTenant transcripts tenant k other) h its) same
  ]
  last_wider client (Some p) last apart = record {
    session = last.session;
    its = last.its;
    own = last.own;
    last = λ i other within its same. elim (below_one i place within) [
      | inl h ↦ last.last i other h its same
      | inr h ↦ absurd (apart other (subst (λ k. IsOfTenant transcripts tenant k other) h its) same)
    ];
  }

  -- the transcript at the place is the one that is there
  the_one : (i : ℕ) (other : Transcript) → i ≡ place → slice_get transcripts i ≡ Some other → other ≡ transcript
  the_one i other same there = some_is other transcript (sym there ∙ ap (slice_get transcripts) same ∙ here)

  -- ---- seats

  none_more : (seat : ℕ) → NoneOfSeat transcripts tenant seat place → (IsOfSeat tenant seat transcript → ⊥) → NoneOfSeat transcripts tenant seat (place + 1)
  none_more seat none apart i other within there of = elim (below_one i place within) [
    | inl h ↦ none i other h there of
    | inr h ↦ apart (subst (IsOfSeat tenant seat) (the_one i other h there) of)
  ]

  -- a transcript that is another tenant's, or whose seat has a place, changes nothing
  pub slots_kept : {S : Type 0} (slots : IndexMap ℕ ℕ S) → AreSlots transcripts tenant place slots → ((transcript.tenant ≡ tenant) → is_some (get nat_eq slots transcript.seat) ≡ true) → AreSlots transcripts tenant (place + 1) slots
  slots_kept slots are known seat = go (get nat_eq slots seat) refl (are seat)
    where
      go : (o : Option ℕ) → get nat_eq slots seat ≡ o → MatchOption o (NoneOfSeat transcripts tenant seat place) (IsSlot transcripts tenant seat) → MatchOption o (NoneOfSeat transcripts tenant seat (place + 1)) (IsSlot transcripts tenant seat)
      go None is none = none_more seat none (λ of. let bad : false ≡ true = ap (λ (o : Option ℕ). is_some o) (sym is) ∙ ap (λ s. is_some (get nat_eq slots s)) (sym of.1) ∙ known of.0 in cc)
      go (Some slot) is slotted = slotted

  -- the seat's first transcript
  pub slots_added : {S : Type 0} (old new : IndexMap ℕ ℕ S) → AreSlots transcripts tenant place old → transcript.tenant ≡ tenant → is_some (get nat_eq old transcript.seat) ≡ false
      → ((seat : ℕ) → get nat_eq new seat ≡ cond (nat_eq transcript.seat seat) (Some place) (get nat_eq old seat)) → AreSlots transcripts tenant (place + 1) new
  slots_added old new are own unknown told seat = subst (λ o. MatchOption o (NoneOfSeat transcripts tenant seat (place + 1)) (IsSlot transcripts tenant seat)) (sym (told seat)) (go (nat_eq transcript.seat seat) refl)
    where
      unseen : (o : Option ℕ) → is_some o ≡ false → MatchOption o (NoneOfSeat transcripts tenant transcript.seat place) (IsSlot transcripts tenant transcript.seat) → NoneOfSeat transcripts tenant transcript.seat place
      unseen None is none = none
      unseen (Some slot) is slotted = absurd (let bad : true ≡ false = is in cc)

      kept : (o : Option ℕ) → (transcript.seat ≡ seat → ⊥) → MatchOption o (NoneOfSeat transcripts tenant seat place) (IsSlot transcripts tenant seat) → MatchOption o (NoneOfSeat transcripts tenant seat (place + 1)) (IsSlot transcripts tenant seat)
      kept None apart none = none_more seat none (λ of. apart of.1)
      kept (Some slot) apart slotted = slotted

      go : (b : Bool) → nat_eq transcript.seat seat ≡ b → MatchOption (cond b (Some place) (get nat_eq old seat)) (NoneOfSeat transcripts tenant seat (place + 1)) (IsSlot transcripts tenant seat)
      go true is =
          let same : transcript.seat ≡ seat = eqb-true transcript.seat seat is in record {
            transcript = transcript;
            there = here;
            its = (own, same);
            first = subst (λ s. NoneOfSeat transcripts tenant s place) same (unseen (get nat_eq old transcript.seat) unknown (are transcript.seat));
          }
      go false is = kept (get nat_eq old seat) (λ same. let bad : true ≡ false = sym (eq-eqb transcript.seat seat same) ∙ is in cc) (are seat)

  after_last : (p : ℕ) (session : Transcript) → slice_get transcripts p ≡ Some session → IsLater transcripts (Some p) place → ComesBefore p session place transcript
  after_last p session at later =
      let first : later.0 ≡ session = some_is later.0 session (sym later.2 ∙ at) in
      let second : later.1 ≡ transcript = some_is later.1 transcript (sym later.3 ∙ here) in
      subst (λ s. ComesBefore p s place transcript) first (subst (λ t. ComesBefore p later.0 place t) second later.4)

  not_itself : (i : ℕ) (other : Transcript) → i ≡ place → slice_get transcripts i ≡ Some other → ComesBefore i other place transcript → ⊥
  not_itself i other same there comes =
      irreflexive place transcript (subst (λ k. ComesBefore k transcript place transcript) same (subst (λ t. ComesBefore i t place transcript) (the_one i other same there) comes))

  -- ---- another tenant's transcript

  module _ (foreign : transcript.tenant ≡ tenant → ⊥) where
    not_its : (i : ℕ) (other : Transcript) → i ≡ place → IsOfTenant transcripts tenant i other → ⊥
    not_its i other same its = foreign (ap (λ (t : Transcript). t.tenant) (sym (the_one i other same its.0)) ∙ its.1)

    pub lasts_kept : {S : Type 0} (lasts : IndexMap ℕ ℕ S) → AreLast transcripts tenant place lasts → AreLast transcripts tenant (place + 1) lasts
    lasts_kept lasts are client = last_wider client (get nat_eq lasts client) (are client) (λ other its same. not_its place other refl its)

    pub befores_kept : (befores : List (Option ℕ)) → AreBefore transcripts tenant place befores → AreBefore transcripts tenant (place + 1) (befores ++ None ∷ [])
    befores_kept befores are = record {
      sized = pushed_length befores None ∙ ap (λ n. n + 1) are.sized;
      each = each_pushed befores None (place + 1)
          (λ p t found its at. before_wider p t found (are.each p t found its at) (λ other also comes. not_its place other refl also))
          (λ t its. absurd (not_its (length befores) t are.sized its));
    }

  -- ---- the tenant's own

  module _ {S : Type 0} (own : transcript.tenant ≡ tenant) (lasts : IndexMap ℕ ℕ S) (are : AreLast transcripts tenant place lasts) (later : IsLater transcripts (get nat_eq lasts transcript.client) place) where
    -- each of the client's sessions so far comes before it
    earlier : (i : ℕ) (other : Transcript) → i < place → IsOfTenant transcripts tenant i other → other.client ≡ transcript.client → ComesBefore i other place transcript
    earlier i other within its same = go (get nat_eq lasts transcript.client) (are transcript.client) later
      where
        go : (o : Option ℕ) → MatchOption o (NoneOfClient transcripts tenant place transcript.client) (IsLast transcripts tenant place transcript.client) → IsLater transcripts o place → ComesBefore i other place transcript
        go None none later = absurd (none i other within its same)
        go (Some p) last later =
            let before : ComesBefore p last.session place transcript = after_last p last.session last.its.0 later in
            elim (last.last i other within its same) [
              | inl e ↦
                  let is : last.session ≡ other = some_is last.session other (sym last.its.0 ∙ ap (slice_get transcripts) (sym e) ∙ its.0) in
                  subst (λ k. ComesBefore k other place transcript) (sym e) (subst (λ s. ComesBefore p s place transcript) is before)
              | inr b ↦ transitive i p place other last.session transcript b before
            ]

    pub lasts_added : (new : IndexMap ℕ ℕ S) → ((client : ℕ) → get nat_eq new client ≡ cond (nat_eq transcript.client client) (Some place) (get nat_eq lasts client)) → AreLast transcripts tenant (place + 1) new
    lasts_added new told client = subst (λ o. MatchOption o (NoneOfClient transcripts tenant (place + 1) client) (IsLast transcripts tenant (place + 1) client)) (sym (told client)) (go (nat_eq transcript.client client) refl)
      where
        go : (b : Bool) → nat_eq transcript.client client ≡ b → MatchOption (cond b (Some place) (get nat_eq lasts client)) (NoneOfClient transcripts tenant (place + 1) client) (IsLast transcripts tenant (place + 1) client)
        go true is =
            let same : transcript.client ≡ client = eqb-true transcript.client client is in record {
              session = transcript;
              its = (here, own);
              own = same;
              last = λ i other within its also. elim (below_one i place within) [
                | inl h ↦ inr (earlier i other h its (also ∙ sym same))
                | inr h ↦ inl h
              ];
            }
        go false is = last_wider client (get nat_eq lasts client) (are client)
            (λ other its also. let bad : true ≡ false = sym (eq-eqb transcript.client client (ap (λ (t : Transcript). t.client) (sym (the_one place other refl its.0)) ∙ also)) ∙ is in cc)

    right_before : (o : Option ℕ) → MatchOption o (NoneOfClient transcripts tenant place transcript.client) (IsLast transcripts tenant place transcript.client) → IsLater transcripts o place
        → IsLastBefore transcripts tenant (place + 1) place transcript o
    right_before None none later = λ i other within its comes. elim (below_one i place within) [
      | inl h ↦ none i other h its comes.0
      | inr h ↦ not_itself i other h its.0 comes
    ]
    right_before (Some p) last later = record {
      session = last.session;
      its = last.its;
      before = after_last p last.session last.its.0 later;
      last = λ i other within its comes. elim (below_one i place within) [
        | inl h ↦ last.last i other h its comes.0
        | inr h ↦ absurd (not_itself i other h its.0 comes)
      ];
    }

    pub befores_added : (befores : List (Option ℕ)) → AreBefore transcripts tenant place befores → AreBefore transcripts tenant (place + 1) (befores ++ get nat_eq lasts transcript.client ∷ [])
    befores_added befores so_far = record {
      sized = pushed_length befores (get nat_eq lasts transcript.client) ∙ ap (λ n. n + 1) so_far.sized;
      each = each_pushed befores (get nat_eq lasts transcript.client) (place + 1)
          (λ p t found its at. before_wider p t found (so_far.each p t found its at)
          (λ other also comes. not_back p t (subst (λ n. p < n) so_far.sized (slice_get_within befores p found at)) its other also comes))
          (λ t its. let is : t ≡ transcript = the_one (length befores) t so_far.sized its.0 in
          subst (λ n. IsLastBefore transcripts tenant (place + 1) n t (get nat_eq lasts transcript.client)) (sym so_far.sized)
          (subst (λ u. IsLastBefore transcripts tenant (place + 1) place u (get nat_eq lasts transcript.client)) (sym is) (right_before (get nat_eq lasts transcript.client) (are transcript.client) later)));
    }
      where
        not_back : (p : ℕ) (t : Transcript) → p < place → IsOfTenant transcripts tenant p t → (other : Transcript) → IsOfTenant transcripts tenant place other → ComesBefore place other p t → ⊥
        not_back p t within its other also comes =
            let is : other ≡ transcript = the_one place other refl also.0 in
            let back : ComesBefore place transcript p t = subst (λ u. ComesBefore place u p t) is comes in
            irreflexive p t (transitive p place p t transcript t (earlier p t within its (sym back.0)) back)

-- ---- each two are compared

module _ (transcripts : List Transcript) (tenant place other : ℕ) (session transcript : Transcript) (there : slice_get transcripts other ≡ Some session) where
  is_session : (u : Transcript) → slice_get transcripts other ≡ Some u → u ≡ session
  is_session u at = some_is u session (sym at ∙ there)

  pub passed_over : (o : Option ℕ) → IsLastBefore transcripts tenant other place transcript o → (session.tenant ≡ tenant → ComesBefore other session place transcript → ⊥) → IsLastBefore transcripts tenant (other + 1) place transcript o
  passed_over o before apart = before_more transcripts tenant other place transcript o before
      (λ u its comes. apart (ap (λ (t : Transcript). t.tenant) (sym (is_session u its.0)) ∙ its.1) (subst (λ t. ComesBefore other t place transcript) (is_session u its.0) comes))

  -- one that does not come after the last
  pub not_last : (o : Option ℕ) → IsLastBefore transcripts tenant other place transcript o → ComesBefore other session place transcript → (IsLater transcripts o other → ⊥) → IsLastBefore transcripts tenant (other + 1) place transcript o
  not_last None none comes apart = absurd (apart tt)
  not_last (Some p) right comes apart = record {
    session = right.session;
    its = right.its;
    before = right.before;
    last = λ i u within its before. elim (below_one i other within) [
      | inl h ↦ right.last i u h its before
      | inr h ↦
          let is : session ≡ u = sym (is_session u (ap (slice_get transcripts) (sym h) ∙ its.0)) in
          elim (total p other right.session session (right.before.0 ∙ sym comes.0) (λ b. apart (right.session, session, right.its.0, there, b))) [
            | inl e ↦ inl (h ∙ e)
            | inr b ↦ inr (subst (λ k. ComesBefore k u p right.session) (sym h) (subst (λ t. ComesBefore other t p right.session) is b))
          ]
    ];
  }

  -- one that comes after the last
  pub is_last : (o : Option ℕ) → IsLastBefore transcripts tenant other place transcript o → session.tenant ≡ tenant → ComesBefore other session place transcript → IsLater transcripts o other
      → IsRightBefore transcripts tenant (other + 1) place transcript other
  is_last o before own comes later = record {
    session = session;
    its = (there, own);
    before = comes;
    last = λ i u within its first. elim (below_one i other within) [
      | inl h ↦ inr (go o before later i u h its first)
      | inr h ↦ inl h
    ];
  }
    where
      go : (o : Option ℕ) → IsLastBefore transcripts tenant other place transcript o → IsLater transcripts o other → (i : ℕ) (u : Transcript) → i < other → IsOfTenant transcripts tenant i u
          → ComesBefore i u place transcript → ComesBefore i u other session
      go None none later i u within its first = absurd (none i u within its first)
      go (Some p) right later i u within its first =
          let one : later.0 ≡ right.session = some_is later.0 right.session (sym later.2 ∙ right.its.0) in
          let two : later.1 ≡ session = some_is later.1 session (sym later.3 ∙ there) in
          let before : ComesBefore p right.session other session = subst (λ s. ComesBefore p s other session) one (subst (λ t. ComesBefore p later.0 other t) two later.4) in
          elim (right.last i u within its first) [
            | inl e ↦
                let is : right.session ≡ u = some_is right.session u (sym right.its.0 ∙ ap (slice_get transcripts) (sym e) ∙ its.0) in
                subst (λ k. ComesBefore k u other session) (sym e) (subst (λ s. ComesBefore p s other session) is before)
            | inr b ↦ transitive i p other u right.session session b before
          ]

-- ---- whether one comes after another

pub later_by : (transcripts : List Transcript) (p place : ℕ) (earlier later : Transcript) → slice_get transcripts p ≡ Some earlier → slice_get transcripts place ≡ Some later → (b : Bool)
    → IsTrue b ↔ ComesBefore p earlier place later → IsTrue b ↔ IsLater transcripts (Some p) place
later_by transcripts p place earlier later at here b comes = (
  λ t. (earlier, later, at, here, comes.0 t),
  λ is.
      let one : is.0 ≡ earlier = some_is is.0 earlier (sym is.2 ∙ at) in
      let two : is.1 ≡ later = some_is is.1 later (sym is.3 ∙ here) in
      comes.1 (subst (λ s. ComesBefore p s place later) one (subst (λ t. ComesBefore p is.0 place t) two is.4)),
)

pub later_none : (transcripts : List Transcript) (p place : ℕ) → slice_get transcripts p ≡ None → IsTrue false ↔ IsLater transcripts (Some p) place
later_none transcripts p place at = (
  λ t. absurd (never t),
  λ is. absurd (let bad : None ≡ Some is.0 = sym at ∙ is.2 in cc),
)
  where
    never : IsTrue false → ⊥
    never t = cc

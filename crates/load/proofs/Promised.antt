-- The seats of a load in their order: for `run_seats`, `join_seat` and `join_seats`.
use Rattle.std.proofs.Common.{◌≡◌, ℕ, All, Option, Result, Ok, Err, cond, true, false, ◌+◌, List, [], ◌∷◌, ◌++◌, map, length, sym, ap, subst, ◌∙◌, append_assoc, arith}
use Rattle.std.specs.Result.{is_ok}
use Rattle.std.specs.List.{flat_map, range_with_len}
use Rattle.std.proofs.lemmas.List.{append-nil, map-append, map-id}
use Rattle.std.proofs.lemmas.List.Elements.{All-push, All-same}
use Rattle.std.proofs.lemmas.List.FromFn.{map-range_with_len_more}
use Rattle.std.proofs.lemmas.List.Concat.{flat_map-append}
use Rattle.std.specs.declared.thread.PromisedHandle.{PromisedHandle}
use Rattle.closed_store.specs.declared.transcript.Transcript.{Transcript}
use Rattle.hub.specs.declared.clients.Departure.{Departure}
use Rattle.server_sessions.specs.Telling.{SessionLeft}
use Rattle.load.specs.declared.seats.LoadSeat.{LoadSeat}
use Rattle.load.specs.declared.seats.Orders.{Orders}
use Rattle.load.specs.Rounds.{IsOfSeat, seat_of, seats_of, seats_of_tenant}

range_more : (a n j : ℕ) → a + n ≡ j → range_with_len a (n + 1) ≡ range_with_len a n ++ j ∷ []
range_more a n j is =
    sym (map-id (range_with_len a (n + 1))) ∙ map-range_with_len_more (λ (i : ℕ). i) a n j is ∙ ap (λ (l : List ℕ). l ++ j ∷ []) (map-id (range_with_len a n))

-- one more client of a tenant
one_more_seat : (tenants seats tenant nth : ℕ) → seats_of tenants seats ++ seats_of_tenant (nth + 1) tenant ≡ (seats_of tenants seats ++ seats_of_tenant nth tenant) ++ (tenant, nth + 1) ∷ []
one_more_seat tenants seats tenant nth =
    ap (λ (l : List (ℕ × ℕ)). seats_of tenants seats ++ l) (map-range_with_len_more (λ (number : ℕ). (tenant, number)) 1 nth (nth + 1) (omega arith)) ∙ sym (append_assoc (seats_of tenants seats) (seats_of_tenant nth tenant) ((tenant, nth + 1) ∷ []))

-- the thread of a seat, which promised what it leaves
abbrev pub Handle : Type 0
Handle = PromisedHandle (Option (Option SessionLeft × Departure)) LoadSeat

abbrev pub promised : Handle → ℕ × ℕ
promised handle = (handle.promise.tenant, handle.promise.number)

-- the handle of one more client of a tenant
pub seat_begun : (old new : List Handle) (handle : Handle) (seat : LoadSeat) (tenant seats nth : ℕ) → new ≡ old ++ handle ∷ [] → handle.promise ≡ seat → ◌≡◌ {A = ℕ × ℕ} (seat.tenant, seat.number) (tenant, nth + 1)
    → map promised old ≡ seats_of tenant seats ++ seats_of_tenant nth tenant → map promised new ≡ seats_of tenant seats ++ seats_of_tenant (nth + 1) tenant
seat_begun old new handle seat tenant seats nth is kept client named =
    ap (map promised) is
    ∙ map-append promised old (handle ∷ [])
    ∙ ap (λ (l : List (ℕ × ℕ)). l ++ promised handle ∷ []) named
    ∙ ap (λ (p : LoadSeat). (seats_of tenant seats ++ seats_of_tenant nth tenant) ++ (p.tenant, p.number) ∷ []) kept
    ∙ ap (λ (p : ℕ × ℕ). (seats_of tenant seats ++ seats_of_tenant nth tenant) ++ p ∷ []) client
    ∙ sym (one_more_seat tenant seats tenant nth)

-- the handles of all clients of one more tenant
pub tenant_begun : (handles : List Handle) (tenant seats nth : ℕ) → nth ≡ seats → map promised handles ≡ seats_of tenant seats ++ seats_of_tenant nth tenant → map promised handles ≡ seats_of (tenant + 1) seats
tenant_begun handles tenant seats nth all named =
    named
    ∙ ap (λ (n : ℕ). seats_of tenant seats ++ seats_of_tenant n tenant) all
    ∙ ap (λ (l : List (ℕ × ℕ)). seats_of tenant seats ++ l) (sym (append-nil (seats_of_tenant seats tenant)))
    ∙ sym (flat_map-append (seats_of_tenant seats) (range_with_len 0 tenant) (tenant ∷ []))
    ∙ ap (flat_map (seats_of_tenant seats)) (sym (range_more 0 tenant tenant (omega arith)))

pub ordered_more : (old new : List Handle) (handle : Handle) (orders : Orders) → new ≡ old ++ handle ∷ [] → handle.promise.orders ≡ orders
    → All (λ (h : Handle). h.promise.orders ≡ orders) old → All (λ (h : Handle). h.promise.orders ≡ orders) new
ordered_more old new handle orders is same h = All-same (λ (h : Handle). h.promise.orders ≡ orders) new (old ++ handle ∷ []) is (All-push (λ (h : Handle). h.promise.orders ≡ orders) old handle h same)

-- the seat that a thread promised
pub seat_ended : (handle : Handle) (rest left given : List Handle) (old new : List Transcript) (transcript : Transcript) → rest ≡ handle ∷ left
    → new ≡ old ++ transcript ∷ [] → seat_of transcript ≡ promised handle → map seat_of old ++ map promised rest ≡ map promised given → map seat_of new ++ map promised left ≡ map promised given
seat_ended handle rest left given old new transcript is kept same so_far =
    ap (λ (l : List Transcript). map seat_of l ++ map promised left) kept
    ∙ ap (λ (l : List (ℕ × ℕ)). l ++ map promised left) (map-append seat_of old (transcript ∷ []))
    ∙ append_assoc (map seat_of old) (seat_of transcript ∷ []) (map promised left)
    ∙ ap (λ (seat : ℕ × ℕ). map seat_of old ++ (seat ∷ map promised left)) same
    ∙ ap (λ (l : List Handle). map seat_of old ++ map promised l) (sym is)
    ∙ so_far

-- all seats have ended
pub all_ended : (rest given : List Handle) (transcripts : List Transcript) → length rest ≡ 0 → map seat_of transcripts ++ map promised rest ≡ map promised given → map seat_of transcripts ≡ map promised given
all_ended [] given transcripts none ended = sym (append-nil (map seat_of transcripts)) ∙ ended
all_ended (handle ∷ rest) given transcripts none ended = absurd (omega (arith, none))

pub drawn_more : (seed rounds keys tenant client : ℕ) (old new : List Transcript) (transcript : Transcript) → new ≡ old ++ transcript ∷ []
    → IsOfSeat seed rounds keys tenant client transcript → All (λ (t : Transcript). IsOfSeat seed rounds keys t.tenant t.client t) old → All (λ (t : Transcript). IsOfSeat seed rounds keys t.tenant t.client t) new
drawn_more seed rounds keys tenant client old new transcript kept its h =
    All-same is_own new (old ++ transcript ∷ []) kept (All-push is_own old transcript h
    (subst (λ (c : ℕ). IsOfSeat seed rounds keys transcript.tenant c transcript) (sym its.of_client) (subst (λ (t : ℕ). IsOfSeat seed rounds keys t client transcript) (sym its.of_tenant) its)))
  where
    is_own : Transcript → Type 0
    is_own t = IsOfSeat seed rounds keys t.tenant t.client t

-- What the client of a connection is answered, answer by answer.
use Rattle.std.proofs.Common.{◌≡◌, ◌<◌, ◌+◌, ℕ, zero, suc, Bool, true, false, cond, nat_lt, List, [], ◌∷◌, ◌++◌, length, take, Option, Some, None, Result, Ok, Err, refl, sym, ap, subst, inl, inr, arith, ◌∙◌, append_assoc}
use Rattle.std.proofs.lemmas.List.{append-nil}
use Rattle.std.proofs.lemmas.List.Elements.{filter_map-append}
use Rattle.std.proofs.lemmas.List.Concat.{flat_map-append}
use Rattle.std.specs.Prelude.{◌⊎◌, IfSome, IfOk, IfErr, OnOk}
use Rattle.std.specs.List.{flat_map, filter_map, cons_option}
use Rattle.std.specs.Io.KnownBytes.{Appends, Keeps}
use Rattle.std.proofs.KnownBytes.{Appends-kept, Appends-nil, Appends-trans}
use Rattle.stamps.specs.declared.record.Item.{Item}
use Rattle.plain_store.specs.declared.refusal.Refusal.{Refusal}
use Rattle.plain_store.specs.declared.refusal.Refusal.TheVariants.{Busy, NoTenant}
use Rattle.plain_store.specs.declared.step.Act.{Act}
use Rattle.plain_store.specs.declared.step.Act.TheVariants.{Put as PutAct, Get as GetAct, Find as FindAct}
use Rattle.plain_store.specs.declared.answer.Answer.{Answer}
use Rattle.plain_store.specs.declared.answer.Answer.TheVariants.{Refused, Keeps as KeepsMany}
use Rattle.entry_list.specs.declared.kinds.Entry.{Entry}
use Rattle.entry_list.specs.declared.kinds.Entry.TheVariants.{Began}
use Rattle.entry_list.specs.Raises.{raise_entries}
use Rattle.hub.specs.Limits.{max_calls}
use Rattle.hub.specs.Clocks.{IsRaised, MayBeRaised, PutsByClock}
use Rattle.hub.specs.Seats.{SeatView, Follows, IsEntered, IsLeftBy, answer_in, is_of_worker, recorded}
use Rattle.shard.specs.declared.seat_name.SeatName.{SeatName}
use Rattle.line_protocol.specs.AnswerSpelling.{answer_line}
use Rattle.line_protocol.specs.declared.request.Request.{Request}
use Rattle.line_protocol.specs.declared.request.Request.TheVariants.{Hello, Put, Get, Find, Keep, Info, Bye}
use Rattle.line_runs.specs.RunAnswers.{Gathers}
use Rattle.server_sessions.specs.Answered.{IsEndOf, IsOfSeat}
use Rattle.server_sessions.specs.Histories.{IsGivenIn}
use Rattle.server_sessions.specs.Said.{Aside, Declines, Shows, aside_line, asides_text, ready_line}
use Rattle.server_sessions.specs.SeatAnswers.{AreGiven, IsAnswered, IsAnsweredAndDrained, IsDrained, IsFresh, IsPut, IsServedWith, IsToldBySeat, IsToldNext, Nothing, OneMore, ReportsFind, ReportsGet, Returned}
use Rattle.server_sessions.specs.Telling.{Telling, Entered, Refuses, KeepsSo, Informs, telling_line, answers_entered, tellings_text, IsLeftOf, IsReplaced, HasHeard, WasHeard, WasTold, Tells, HasTold, SessionLeft, IsLastLine, IsWritten, IsBegun, BreaksTelling, HasName, IsSeated}
use Rattle.server_sessions.proofs.SeatsGiven.{drained_name, given_at_end, given_drained, given_fresh, given_later}
use Rattle.line_runs.proofs.Fronts.{begins_behind_gathered}
use Rattle.line_runs.proofs.Gathering.{Gathers-end, Gathers-none, Gathers-text, Gathers-trans, Gathers-written}

pub Tells-same : (newest : Bool) (epoch : ℕ) (seat : Option SeatView) → Tells newest epoch seat seat []
Tells-same newest epoch seat told h = subst (WasTold newest epoch seat) (sym (append-nil told)) h

pub Tells-trans : (newest : Bool) (epoch : ℕ) (a b c : Option SeatView) (s t : List ℕ) → Tells newest epoch a b s → Tells newest epoch b c t → Tells newest epoch a c (s ++ t)
Tells-trans newest epoch a b c s t h k told is = subst (WasTold newest epoch c) (append_assoc told s t) (k (told ++ s) (h told is))

asides-more : (asides : List Aside) (a : Aside) → asides_text (asides ++ a ∷ []) ≡ asides_text asides ++ aside_line a
asides-more [] a = append-nil (aside_line a)
asides-more (first ∷ others) a =
    ap (λ (t : List ℕ). aside_line first ++ t) (asides-more others a)
    ∙ sym (append_assoc (aside_line first) (asides_text others) (aside_line a))

tellings-more : (tellings : List Telling) (t : Telling) → tellings_text (tellings ++ t ∷ []) ≡ tellings_text tellings ++ telling_line t
tellings-more [] t = append-nil (telling_line t)
tellings-more (first ∷ others) t =
    ap (λ (text : List ℕ). telling_line first ++ text) (tellings-more others t)
    ∙ sym (append_assoc (telling_line first) (tellings_text others) (telling_line t))

-- ---- while there is no seat

-- what no seat answers
Tells-aside : (newest : Bool) (epoch : ℕ) (aside : Aside) → Tells newest epoch None None (aside_line aside)
Tells-aside newest epoch aside told h = (h.0 ++ aside ∷ [], ap (λ (t : List ℕ). t ++ aside_line aside) h.1 ∙ sym (asides-more h.0 aside))

-- a refusal
pub Tells-refused : (newest : Bool) (epoch : ℕ) (cause : Refusal) → Tells newest epoch None None (answer_line (Refused cause))
Tells-refused newest epoch cause = Tells-aside newest epoch (Declines cause)

-- a seat is opened, and its client is told, where that was not asked for
pub Tells-ready : (newest : Bool) (epoch : ℕ) (seat : SeatView) (told_client : Option ℕ) → IsFresh epoch seat → IfSome told_client (λ client. client ≡ seat.name.client)
    → Tells newest epoch None (Some seat) (ready_line seat.name.counter told_client)
Tells-ready newest epoch seat told_client fresh own told h =
    let line = ready_line seat.name.counter told_client in
    let spelled : told ++ line ≡ asides_text h.0 ++ (line ++ []) = ap (λ (t : List ℕ). t ++ line) h.1 ∙ ap (λ (t : List ℕ). asides_text h.0 ++ t) (sym (append-nil line)) in (
      (
        None,
        record {
          asides = h.0;
          told_client = told_client;
          tellings = [];
          all = [];
          spelled = spelled;
          handed = (λ kept. fresh.0, λ cut. fresh.0);
          agrees = refl;
          replaced = tt;
        },
        λ going. refl,
      ),
      record {
        asides = h.0;
        opened = seat;
        fresh = fresh;
        session = refl;
        told = [];
        since = Nothing;
        told_client = told_client;
        own = own;
        spelled = spelled;
        given = given_fresh seat fresh.0;
      },
    )

-- ---- while there is a seat, by what it has entered

-- whatever was reported before by what a seat has entered, this text is reported after it
abbrev Hears : ℕ → SeatView → SeatView → List ℕ → Type 0
Hears epoch old new text = (told : List ℕ) → WasHeard epoch old told → WasHeard epoch new (told ++ text)

-- one line more
spelled_more : (text : List ℕ) (asides : List Aside) (counter : ℕ) (client : Option ℕ) (tellings : List Telling) (t : Telling)
    → text ≡ asides_text asides ++ (ready_line counter client ++ tellings_text tellings)
    → text ++ telling_line t ≡ asides_text asides ++ (ready_line counter client ++ tellings_text (tellings ++ t ∷ []))
spelled_more text asides counter client tellings t is =
    let first = asides_text asides in
    let ready = ready_line counter client in
    let so_far = tellings_text tellings in
    let line = telling_line t in
    ap (λ (l : List ℕ). l ++ line) is
    ∙ append_assoc first (ready ++ so_far) line
    ∙ ap (λ (l : List ℕ). first ++ l) (append_assoc ready so_far line ∙ ap (λ (l : List ℕ). ready ++ l) (sym (tellings-more tellings t)))

entered_more : (tellings : List Telling) (t : Telling) → flat_map answers_entered (tellings ++ t ∷ []) ≡ flat_map answers_entered tellings ++ answers_entered t
entered_more tellings t = flat_map-append answers_entered tellings (t ∷ []) ∙ ap (λ (l : List Answer). flat_map answers_entered tellings ++ l) (append-nil (answers_entered t))

replaced_more : (unheard : Option Answer) (tellings : List Telling) (t : Telling) → IsReplaced unheard tellings → IsReplaced unheard (tellings ++ t ∷ [])
replaced_more None tellings t h = tt
replaced_more (Some answer) tellings t h =
    (h.0, h.1, h.2 ++ t ∷ [], h.3, ap (λ (l : List Telling). l ++ t ∷ []) h.4 ∙ append_assoc h.1 (Refuses h.0 ∷ h.2) (t ∷ []))

replaced_now : (unheard : Option Answer) (tellings : List Telling) (refusal : Refusal) → is_of_worker refusal ≡ true → IsReplaced unheard (tellings ++ Refuses refusal ∷ [])
replaced_now None tellings refusal is = tt
replaced_now (Some answer) tellings refusal is = (refusal, tellings, [], is, refl)

-- what is drained is of the same seat, as it was
drained_stopped : (epoch : ℕ) (old new : SeatView) → IsDrained epoch old new → new.stopped ≡ old.stopped
drained_stopped zero old new drained = ap (λ (s : SeatView). s.stopped) (drained.0 refl)
drained_stopped (suc n) old new drained = ap (λ (s : SeatView). s.stopped) (drained.1 (omega arith))

drained_counter : (epoch : ℕ) (old new : SeatView) → IsDrained epoch old new → new.name.counter ≡ old.name.counter
drained_counter zero old new drained = ap (λ (s : SeatView). s.name.counter) (drained.0 refl)
drained_counter (suc n) old new drained = ap (λ (s : SeatView). s.name.counter) (drained.1 (omega arith))

-- and has what is left of all entries
drained_left : (epoch : ℕ) (old new : SeatView) (all : List Entry) → IsDrained epoch old new → (epoch ≡ 0 → old.entries ≡ all) → IsLeftOf epoch all new.entries
drained_left epoch old new all drained kept =
    (λ never. ap (λ (s : SeatView). s.entries) (drained.0 never) ∙ kept never, λ cut. ap (λ (s : SeatView). s.entries) (drained.1 cut))

-- What one or more operations entered, after all that was entered before, and their answers.
record HasGrown (old between : List Entry) (told : List Answer) : Type 0 where
  pub more : List Entry
  pub is : between ≡ old ++ more
  pub answers : filter_map answer_in more ≡ told

one_grown : (old between : List Entry) (act : Act) (told : Option Answer) → Follows (old ++ Began act ∷ []) told between → HasGrown old between (cons_option told [])
one_grown old between act told f = record { more = Began act ∷ f.more; is = f.is ∙ append_assoc old (Began act ∷ []) f.more; answers = f.answers }

still_grown : (old between : List Entry) → between ≡ old → HasGrown old between []
still_grown old between same = record { more = []; is = same ∙ sym (append-nil old); answers = refl }

-- that a counter was raised answers nothing
raise_grown : (old between : SeatView) → IsRaised old between → HasGrown old.entries between.entries []
raise_grown old between raised = record { more = raise_entries old.name.client between.counter; is = ap (λ (s : SeatView). s.entries) raised.rest; answers = refl }

both_grown : (old between new : List Entry) (one other : List Answer) → HasGrown old between one → HasGrown between new other → HasGrown old new (one ++ other)
both_grown old between new one other a b = record {
  more = a.more ++ b.more;
  is = b.is ∙ ap (λ (l : List Entry). l ++ b.more) a.is ∙ append_assoc old a.more b.more;
  answers = filter_map-append answer_in a.more b.more ∙ (λ i. a.answers i ++ b.answers i);
}

grown : (epoch : ℕ) (old between : List Entry) (told : List Answer) (all : List Entry) → IsLeftOf epoch all old → (g : HasGrown old between told) → epoch ≡ 0 → between ≡ all ++ g.more
grown epoch old between told all left g never = g.is ∙ ap (λ (l : List Entry). l ++ g.more) (left.0 never)

-- an answer that is not entered
heard_aside : (epoch counter other : ℕ) (old between rest : List Entry) (unheard : Option Answer) (text : List ℕ) (t : Telling)
    → HasHeard epoch counter old unheard text → answers_entered t ≡ [] → (g : HasGrown old between []) → other ≡ counter
    → ((all : List Entry) → IsLeftOf epoch all old → IsLeftOf epoch (all ++ g.more) rest)
    → HasHeard epoch other rest unheard (text ++ telling_line t)
heard_aside epoch counter other old between rest unheard text t h aside g same drained =
    let more = entered_more h.tellings t ∙ ap (λ (l : List Answer). flat_map answers_entered h.tellings ++ l) aside ∙ append-nil (flat_map answers_entered h.tellings) in
    record {
      asides = h.asides;
      told_client = h.told_client;
      tellings = h.tellings ++ t ∷ [];
      all = h.all ++ g.more;
      spelled = subst (λ (n : ℕ). text ++ telling_line t ≡ asides_text h.asides ++ (ready_line n h.told_client ++ tellings_text (h.tellings ++ t ∷ []))) (sym same)
          (spelled_more text h.asides counter h.told_client h.tellings t h.spelled);
      handed = drained h.all h.handed;
      agrees = filter_map-append answer_in h.all g.more ∙ (λ i. filter_map answer_in h.all ++ g.answers i) ∙ append-nil (filter_map answer_in h.all)
          ∙ h.agrees ∙ ap (λ (l : List Answer). l ++ cons_option unheard []) (sym more);
      replaced = replaced_more unheard h.tellings t h.replaced;
    }

told_aside : (epoch : ℕ) (old between new : SeatView) (t : Telling) → answers_entered t ≡ [] → HasGrown old.entries between.entries [] → between.stopped ≡ old.stopped
    → between.name.counter ≡ old.name.counter → IsDrained epoch between new → Hears epoch old new (telling_line t)
told_aside epoch old between new t aside g stays name drained told h = (
  h.0,
  heard_aside epoch old.name.counter new.name.counter old.entries between.entries new.entries h.0 told t h.1 aside g (drained_counter epoch between new drained ∙ name)
      (λ all left. drained_left epoch between new (all ++ g.more) drained (grown epoch old.entries between.entries [] all left g)),
  λ going. h.2 (sym stays ∙ sym (drained_stopped epoch between new drained) ∙ going),
)

-- so where the seat is as it was
told_same : (epoch : ℕ) (old between new : SeatView) (t : Telling) → answers_entered t ≡ [] → between ≡ old → IsDrained epoch between new → Hears epoch old new (telling_line t)
told_same epoch old between new t aside same drained =
    told_aside epoch old between new t aside (still_grown old.entries between.entries (ap (λ (s : SeatView). s.entries) same)) (ap (λ (s : SeatView). s.stopped) same)
    (ap (λ (s : SeatView). s.name.counter) same) drained

-- operations that the seat began: what it told is what they entered, but for a worker's refusal in its place
heard_grown : (epoch counter other : ℕ) (old between rest : List Entry) (told : List Answer) (unheard : Option Answer) (text : List ℕ) (t : Telling)
    → HasHeard epoch counter old None text → (g : HasGrown old between told) → other ≡ counter
    → ((all : List Entry) → (epoch ≡ 0 → between ≡ all) → IsLeftOf epoch all rest)
    → told ≡ answers_entered t ++ cons_option unheard []
    → ((tellings : List Telling) → IsReplaced unheard (tellings ++ t ∷ []))
    → HasHeard epoch other rest unheard (text ++ telling_line t)
heard_grown epoch counter other old between rest told unheard text t h g same drained split replaced =
    let so_far = flat_map answers_entered h.tellings in
    record {
      asides = h.asides;
      told_client = h.told_client;
      tellings = h.tellings ++ t ∷ [];
      all = h.all ++ g.more;
      spelled = subst (λ (n : ℕ). text ++ telling_line t ≡ asides_text h.asides ++ (ready_line n h.told_client ++ tellings_text (h.tellings ++ t ∷ []))) (sym same)
          (spelled_more text h.asides counter h.told_client h.tellings t h.spelled);
      handed = drained (h.all ++ g.more) (grown epoch old between told h.all h.handed g);
      agrees = filter_map-append answer_in h.all g.more
          ∙ (λ i. (h.agrees ∙ append-nil so_far) i ++ (g.answers ∙ split) i)
          ∙ sym (append_assoc so_far (answers_entered t) (cons_option unheard []))
          ∙ ap (λ (l : List Answer). l ++ cons_option unheard []) (sym (entered_more h.tellings t));
      replaced = replaced h.tellings;
    }

-- nothing was unheard of a seat that went on
heard_all : (epoch : ℕ) (seat : SeatView) (text : List ℕ) (h : WasHeard epoch seat text) → seat.stopped ≡ false → HasHeard epoch seat.name.counter seat.entries None text
heard_all epoch seat text h going = subst (λ (o : Option Answer). HasHeard epoch seat.name.counter seat.entries o text) (h.2 going) h.1

-- what a seat reports whose operations entered just this, and that goes on
told_grown : (epoch : ℕ) (old between new : SeatView) (t : Telling) → HasGrown old.entries between.entries (answers_entered t)
    → old.stopped ≡ false → between.name.counter ≡ old.name.counter → IsDrained epoch between new → Hears epoch old new (telling_line t)
told_grown epoch old between new t g going name drained told h = (
  None,
  heard_grown epoch old.name.counter new.name.counter old.entries between.entries new.entries (answers_entered t) None told t (heard_all epoch old told h going) g
      (drained_counter epoch between new drained ∙ name) (λ all kept. drained_left epoch between new all drained kept) (sym (append-nil (answers_entered t))) (λ tellings. tt),
  λ still. refl,
)

-- what it reports that a worker's refusal stopped
told_broken : (epoch : ℕ) (old between new : SeatView) (entered : Option Answer) (refusal : Refusal) → is_of_worker refusal ≡ true
    → HasGrown old.entries between.entries (cons_option entered []) → old.stopped ≡ false → between.stopped ≡ true
    → between.name.counter ≡ old.name.counter → IsDrained epoch between new → Hears epoch old new (answer_line (Refused refusal))
told_broken epoch old between new entered refusal worker g went_on stops name drained told h = (
  entered,
  heard_grown epoch old.name.counter new.name.counter old.entries between.entries new.entries (cons_option entered []) entered told (Refuses refusal)
      (heard_all epoch old told h went_on) g (drained_counter epoch between new drained ∙ name) (λ all kept. drained_left epoch between new all drained kept) refl
      (λ tellings. replaced_now entered tellings refusal worker),
  λ going. absurd (let both : true ≡ false = sym stops ∙ sym (drained_stopped epoch between new drained) ∙ going in cc),
)

-- The seat began just this act, and the answer is the one that it entered; or the answer is a refusal that it did not enter.
abbrev Enters : Act → SeatView → Answer → SeatView → Type 0
Enters act old answer new =
    (Follows (old.entries ++ Began act ∷ []) (Some answer) new.entries × (old.stopped ≡ false) × (new.stopped ≡ false))
    ⊎ IsLeftBy act answer old new

served_by : (act : Act) (old new : SeatView) (answer : Answer) → IsEntered act old answer new → Enters act old answer new
served_by act old new answer (inl (inside, going, goes, follows)) = inl (follows, going, goes)
served_by act old new answer (inr (outside, left)) = inr left

-- what an operation is answered that began behind this, which answers nothing
told_behind : (epoch : ℕ) (old start between new : SeatView) (act : Act) (answer : Answer) → HasGrown old.entries start.entries [] → start.stopped ≡ old.stopped → Enters act start answer between
    → between.name.counter ≡ old.name.counter → IsDrained epoch between new → Hears epoch old new (answer_line answer)
told_behind epoch old start between new act answer g same (inl (follows, going, goes)) name drained =
    told_grown epoch old between new (Entered answer)
    (both_grown old.entries start.entries between.entries [] (answer ∷ []) g (one_grown start.entries between.entries act (Some answer) follows)) (sym same ∙ going) name drained
told_behind epoch old start between new act answer g same (inr (refusal, is, inl unbegun)) name drained =
    subst (λ (a : Answer). Hears epoch old new (answer_line a)) (sym is)
    (told_aside epoch old between new (Refuses refusal) refl (subst (λ (s : SeatView). HasGrown old.entries s.entries []) (sym unbegun.1) g)
    (ap (λ (s : SeatView). s.stopped) unbegun.1 ∙ same) name drained)
told_behind epoch old start between new act answer g same (inr (refusal, is, inr stopped)) name drained =
    let stop = stopped.1 in
    subst (λ (a : Answer). Hears epoch old new (answer_line a)) (sym is)
    (told_broken epoch old between new stop.told refusal stopped.0
    (both_grown old.entries start.entries between.entries [] (cons_option stop.told []) g (one_grown start.entries between.entries act stop.told stop.entered))
    (sym same ∙ stop.went_on) stop.stops name drained)

-- what an operation is answered
told_served : (epoch : ℕ) (old between new : SeatView) (act : Act) (answer : Answer) → IsEntered act old answer between → between.name.counter ≡ old.name.counter
    → IsDrained epoch between new → Hears epoch old new (answer_line answer)
told_served epoch old between new act answer entered name drained =
    told_behind epoch old old between new act answer (still_grown old.entries old.entries refl) refl (served_by act old between answer entered) name drained

-- what a put is answered whose stamp the clock gave
told_clocked : (epoch : ℕ) (items : List Item) (old between new : SeatView) (answer : Answer) → PutsByClock items old answer between → between.name.counter ≡ old.name.counter
    → IsDrained epoch between new → Hears epoch old new (answer_line answer)
told_clocked epoch items old between new answer put name drained = go put.raised
  where
    start : SeatView
    start = put.between

    act : Act
    act = PutAct start.name.client items

    go : MayBeRaised old start → Hears epoch old new (answer_line answer)
    go (inl same) =
        told_behind epoch old start between new act answer (still_grown old.entries start.entries (ap (λ (s : SeatView). s.entries) same)) (ap (λ (s : SeatView). s.stopped) same)
        (served_by act start between answer put.written.entered) name drained
    go (inr raised) =
        told_behind epoch old start between new act answer (raise_grown old start raised) (ap (λ (s : SeatView). s.stopped) raised.rest)
        (served_by act start between answer put.written.entered) name drained

-- what any put is answered
told_put : (newest : Bool) (epoch : ℕ) (items : List Item) (old between new : SeatView) (answer : Answer) → IsPut newest items old answer between → between.name.counter ≡ old.name.counter
    → IsDrained epoch between new → Hears epoch old new (answer_line answer)
told_put false epoch items old between new answer h name drained = told_served epoch old between new (PutAct old.name.client items) answer h.operated.entered name drained
told_put true epoch items old between new answer h name drained = told_clocked epoch items old between new answer h name drained

-- what `keep` is answered
told_keep : (epoch keep : ℕ) (old between new : SeatView) (answer : Answer) (there : Bool) → answer ≡ cond there (KeepsMany keep) (Refused NoTenant) → between ≡ old
    → IsDrained epoch between new → Hears epoch old new (answer_line answer)
told_keep epoch keep old between new answer true is same drained =
    subst (λ (a : Answer). Hears epoch old new (answer_line a)) (sym is) (told_same epoch old between new (KeepsSo keep) refl same drained)
told_keep epoch keep old between new answer false is same drained =
    subst (λ (a : Answer). Hears epoch old new (answer_line a)) (sym is) (told_same epoch old between new (Refuses NoTenant) refl same drained)

-- what any request is answered
told_answered : (newest : Bool) (epoch tenants : ℕ) (request : Request) (old between new : SeatView) (answer : Answer) → IsAnswered newest tenants request old answer between
    → between.name.counter ≡ old.name.counter → IsDrained epoch between new → Hears epoch old new (answer_line answer)
told_answered newest epoch tenants (Hello name client base) old between new answer h counter drained =
    subst (λ (a : Answer). Hears epoch old new (answer_line a)) (sym h.0) (told_same epoch old between new (Refuses Busy) refl h.1 drained)
told_answered newest epoch tenants (Put items) old between new answer h counter drained = told_put newest epoch items old between new answer h counter drained
told_answered newest epoch tenants (Get keys) old between new answer h counter drained = told_served epoch old between new (GetAct old.name.client keys) answer h.operated.entered counter drained
told_answered newest epoch tenants (Find tag) old between new answer h counter drained = told_served epoch old between new (FindAct old.name.client tag) answer h.operated.entered counter drained
told_answered newest epoch tenants (Keep keep) old between new answer h counter drained = told_keep epoch keep old between new answer (nat_lt old.name.tenant tenants) h.0 h.1 drained
told_answered newest epoch tenants Info old between new answer h counter drained = absurd h
told_answered newest epoch tenants Bye old between new answer h counter drained = absurd h

-- what the seat did not enter, and it stays as it was
told_beside : (epoch : ℕ) (seat : SeatView) (t : Telling) → answers_entered t ≡ [] → Hears epoch seat seat (telling_line t)
unfolding still_grown
told_beside epoch seat t aside told h = (
  h.0,
  heard_aside epoch seat.name.counter seat.name.counter seat.entries seat.entries seat.entries h.0 told t h.1 aside (still_grown seat.entries seat.entries refl) refl
      (λ all left. subst (λ (l : List Entry). IsLeftOf epoch l seat.entries) (sym (append-nil all)) left),
  h.2,
)

told_note : (epoch : ℕ) (seat : SeatView) (aside : Aside) → Hears epoch seat seat (aside_line aside)
told_note epoch seat (Declines cause) = told_beside epoch seat (Refuses cause) refl
told_note epoch seat (Shows store is) = told_beside epoch seat (Informs store is) refl

-- nothing is answered, and entries are returned
told_drained : (epoch : ℕ) (old new : SeatView) → IsDrained epoch old new → Hears epoch old new []
told_drained epoch old new drained told h =
    let same = drained_counter epoch old new drained in (
      h.0,
      record {
        asides = h.1.asides;
        told_client = h.1.told_client;
        tellings = h.1.tellings;
        all = h.1.all;
        spelled = append-nil told ∙ h.1.spelled ∙ ap (λ (n : ℕ). asides_text h.1.asides ++ (ready_line n h.1.told_client ++ tellings_text h.1.tellings)) (sym same);
        handed = drained_left epoch old new h.1.all drained (λ never. h.1.handed.0 never);
        agrees = h.1.agrees;
        replaced = h.1.replaced;
      },
      λ going. h.2 (sym (drained_stopped epoch old new drained) ∙ going),
    )

-- ---- the same, by what it answered

-- whatever was told of a seat before, this text is told of it after that
abbrev Says : Bool → ℕ → SeatView → SeatView → List ℕ → Type 0
Says newest epoch old new text = (told : List ℕ) → IsToldBySeat newest epoch old told → IsToldBySeat newest epoch new (told ++ text)

given_put : (newest : Bool) (items : List Item) (old new : SeatView) (answer : Answer) → IsPut newest items old answer new → AreGiven old → AreGiven new
given_put false items old new answer put given = given_later max_calls old new put.operated.later given
given_put true items old new answer put given = given_later max_calls old new put.later given

given_answered : (newest : Bool) (tenants : ℕ) (request : Request) (old new : SeatView) (answer : Answer) → IsAnswered newest tenants request old answer new → AreGiven old → AreGiven new
given_answered newest tenants (Hello name client base) old new answer h given = subst AreGiven (sym h.1) given
given_answered newest tenants (Put items) old new answer h given = given_put newest items old new answer h given
given_answered newest tenants (Get keys) old new answer h given = given_later max_calls old new h.operated.later given
given_answered newest tenants (Find tag) old new answer h given = given_later max_calls old new h.operated.later given
given_answered newest tenants (Keep keep) old new answer h given = subst AreGiven (sym h.1) given
given_answered newest tenants Info old new answer h given = absurd h
given_answered newest tenants Bye old new answer h given = absurd h

given_next : (newest : Bool) (epoch : ℕ) (old new : SeatView) (line : List ℕ) → IsToldNext newest epoch old line new → AreGiven old → AreGiven new
given_next newest epoch old new line (inl (tenants, request, answer, (between, answered, named, drained), is)) given =
    given_drained epoch between new drained (given_answered newest tenants request old between answer answered given)
given_next newest epoch old new line (inr (aside, is, same)) given = subst AreGiven (sym same) given

named_next : (newest : Bool) (epoch : ℕ) (old new : SeatView) (line : List ℕ) → IsToldNext newest epoch old line new → new.name ≡ old.name
named_next newest epoch old new line (inl (tenants, request, answer, (between, answered, named, drained), is)) = drained_name epoch between new drained ∙ named
named_next newest epoch old new line (inr (aside, is, same)) = ap (λ (s : SeatView). s.name) same

-- a line more
says_next : (newest : Bool) (epoch : ℕ) (old new : SeatView) (line : List ℕ) → IsToldNext newest epoch old line new → Says newest epoch old new line
says_next newest epoch old new line next told h =
    let ready = ready_line h.opened.name.counter h.told_client in
    record {
      asides = h.asides;
      opened = h.opened;
      fresh = h.fresh;
      session = named_next newest epoch old new line next ∙ h.session;
      told = h.told ++ line;
      since = OneMore old line new h.told h.since next;
      told_client = h.told_client;
      own = h.own;
      spelled = ap (λ (t : List ℕ). t ++ line) h.spelled ∙ append_assoc (asides_text h.asides) (ready ++ h.told) line ∙ ap (λ (t : List ℕ). asides_text h.asides ++ t) (append_assoc ready h.told line);
      given = given_next newest epoch old new line next h.given;
    }

-- entries are returned
says_drained : (newest : Bool) (epoch : ℕ) (old new : SeatView) → IsDrained epoch old new → Says newest epoch old new []
says_drained newest epoch old new drained told h = record {
  asides = h.asides;
  told_client = h.told_client;
  own = h.own;
  opened = h.opened;
  fresh = h.fresh;
  session = drained_name epoch old new drained ∙ h.session;
  told = h.told;
  since = Returned old new h.told h.since drained;
  spelled = append-nil told ∙ h.spelled;
  given = given_drained epoch old new drained h.given;
}

-- ---- a seat's answers

tells_both : (newest : Bool) (epoch : ℕ) (old new : SeatView) (text : List ℕ) → Hears epoch old new text → Says newest epoch old new text → Tells newest epoch (Some old) (Some new) text
tells_both newest epoch old new text hears says told h = (hears told h.0, says told h.1)

-- what no seat answers, with a seat or without
pub Tells-note : (newest : Bool) (epoch : ℕ) (seat : Option SeatView) (aside : Aside) → Tells newest epoch seat seat (aside_line aside)
Tells-note newest epoch None aside = Tells-aside newest epoch aside
Tells-note newest epoch (Some seat) aside =
    tells_both newest epoch seat seat (aside_line aside) (told_note epoch seat aside) (says_next newest epoch seat seat (aside_line aside) (inr (aside, refl, refl)))

-- a refusal
pub Tells-cause : (newest : Bool) (epoch : ℕ) (seat : Option SeatView) (cause : Refusal) → Tells newest epoch seat seat (answer_line (Refused cause))
Tells-cause newest epoch seat cause = Tells-note newest epoch seat (Declines cause)

-- whatever a connection's seat answers
pub answered_by : (newest : Bool) (epoch tenants : ℕ) (request : Request) (old : Option SeatView) (seat new : SeatView) (answer : Answer) → old ≡ Some seat
    → IsAnsweredAndDrained newest epoch tenants request seat answer new → Tells newest epoch old (Some new) (answer_line answer)
answered_by newest epoch tenants request old seat new answer is answered =
    subst (λ (s : Option SeatView). Tells newest epoch s (Some new) (answer_line answer)) (sym is)
    (tells_both newest epoch seat new (answer_line answer)
    (told_answered newest epoch tenants request seat answered.0 new answer answered.1 (ap (λ (n : SeatName). n.counter) answered.2) answered.3)
    (says_next newest epoch seat new (answer_line answer) (inl (tenants, request, answer, answered, refl))))

pub left_by : (newest : Bool) (epoch : ℕ) (old : Option SeatView) (seat new : SeatView) → old ≡ Some seat → IsDrained epoch seat new → Tells newest epoch old (Some new) []
left_by newest epoch old seat new is drained =
    subst (λ (s : Option SeatView). Tells newest epoch s (Some new) []) (sym is) (tells_both newest epoch seat new [] (told_drained epoch seat new drained) (says_drained newest epoch seat new drained))

-- ---- the same of the request that asked for it

pub asked_put : (newest : Bool) (tenants : ℕ) (request : Request) (items given : List Item) (old new : SeatView) (answer : Answer) → request ≡ Put items → given ≡ items
    → IsPut newest given old answer new → IsAnswered newest tenants request old answer new
asked_put newest tenants request items given old new answer is same served =
    subst (λ (r : Request). IsAnswered newest tenants r old answer new) (sym is) (subst (λ (xs : List Item). IsPut newest xs old answer new) same served)

pub asked_get : (newest : Bool) (tenants : ℕ) (request : Request) (keys given : List (List ℕ)) (old new : SeatView) (answer : Answer) → request ≡ Get keys → given ≡ keys
    → IsServedWith (GetAct old.name.client given) (ReportsGet given) old answer new → IsAnswered newest tenants request old answer new
asked_get newest tenants request keys given old new answer is same served =
    subst (λ (r : Request). IsAnswered newest tenants r old answer new) (sym is)
    (subst (λ (xs : List (List ℕ)). IsServedWith (GetAct old.name.client xs) (ReportsGet xs) old answer new) same served)

pub asked_find : (newest : Bool) (tenants : ℕ) (request : Request) (tag : List ℕ) (old new : SeatView) (answer : Answer) → request ≡ Find tag
    → IsServedWith (FindAct old.name.client tag) (ReportsFind tag) old answer new → IsAnswered newest tenants request old answer new
asked_find newest tenants request tag old new answer is served = subst (λ (r : Request). IsAnswered newest tenants r old answer new) (sym is) served

-- what was gathered is written
pub Gathers-emptied : (a b c : Option (List ℕ)) (x y z text : List ℕ) → Gathers a b x y text → Appends b c y → z ≡ [] → Gathers a c x z text
Gathers-emptied a b c x y z text h adds none = record {
  written = h.written ++ y;
  appends = Appends-trans a b c h.written y h.appends adds;
  whole = h.whole ∙ sym (append-nil (h.written ++ y)) ∙ ap (λ (l : List ℕ). (h.written ++ y) ++ l) (sym none);
}

-- ---- the end of a session

abbrev pub ToldSo : Bool → ℕ → Option (List ℕ) → Option (List ℕ) → List ℕ → List ℕ → Option SeatView → Option SeatView → Type 0
ToldSo newest epoch old new before after first last = (text : List ℕ) × Gathers old new before after text × Tells newest epoch first last text

one_or_other : (b : Bool) (entries : List Entry) → cond b entries entries ≡ entries
one_or_other true entries = refl
one_or_other false entries = refl

-- a seat has no entries left where they are not recorded
recorded_left : (epoch : ℕ) (seat : SeatView) (all : List Entry) → (seat.name.is_recorded ≡ true) ⊎ (0 < epoch) → IsLeftOf epoch all seat.entries
    → recorded seat.name seat.entries ≡ seat.entries
recorded_left epoch seat all (inl records) left = ap (λ (b : Bool). cond b seat.entries []) records
recorded_left epoch seat all (inr cut) left = ap (recorded seat.name) (left.1 cut) ∙ one_or_other seat.name.is_recorded [] ∙ sym (left.1 cut)

-- what is left has all entries that the seat had at last
all_left : (newest : Bool) (epoch : ℕ) (seat : Option SeatView) (left : Option SessionLeft) (text : List ℕ) → WasTold newest epoch seat text → IsEndOf seat left → IsOfSeat 0 seat left
all_left newest epoch None left text h none = none
all_left newest epoch (Some seat) left text h (its, is, named, entries, seen) =
    let its_own = h.1 in
    let records = subst (λ (n : SeatName). (n.is_recorded ≡ true) ⊎ (0 < epoch)) (sym its_own.session) its_own.fresh.3 in
    (its, is, named, λ never. entries ∙ recorded_left epoch seat h.0.1.all records h.0.1.handed, seen)

pub ended_told : (newest : Bool) (epoch : ℕ) (seat : Option SeatView) (left : Option SessionLeft) (a b : Option (List ℕ)) (gathered : List ℕ) → ToldSo newest epoch a b [] gathered None seat → IsEndOf seat left → IsOfSeat 0 seat left
ended_told newest epoch seat left a b gathered told end = all_left newest epoch seat left told.0 (told.2 [] ([], refl)) end

pub ended_broken : (newest : Bool) (epoch : ℕ) (seat : Option SeatView) (left : Option SessionLeft) (a b : Option (List ℕ)) → BreaksTelling newest epoch None seat a b [] → IsEndOf seat left → IsOfSeat 0 seat left
ended_broken newest epoch seat left a b broken end = all_left newest epoch seat left broken.0 (broken.2 [] ([], refl)) end

-- what was reported of a seat, of what it left
told_at_end : (newest : Bool) (epoch : ℕ) (seat : Option SeatView) (left : Option SessionLeft) (text : List ℕ) → WasTold newest epoch seat text → IsOfSeat 0 seat left → HasTold newest epoch left text
told_at_end newest epoch None left text h none = subst (λ (l : Option SessionLeft). HasTold newest epoch l text) (sym none) h
told_at_end newest epoch (Some seat) left text h (its, is, named, entries, seen) =
    let heard = h.0 in
    let all : its.0.entries.items ≡ seat.entries = entries refl in
    subst (λ (l : Option SessionLeft). HasTold newest epoch l text) (sym is)
    (record {
      unheard = heard.0;
      heard = subst (λ (n : ℕ). HasHeard epoch n its.0.entries.items heard.0 text) (sym named.counter) (subst (λ (es : List Entry). HasHeard epoch seat.name.counter es heard.0 text) (sym all) heard.1);
      seat = seat;
      its = named;
      entries = all;
      seen = seen;
      answered = h.1;
    })

-- each reply in the transcript has its place in what the seat has seen
left_given : (newest : Bool) (epoch : ℕ) (seat : Option SeatView) (left : Option SessionLeft) (text : List ℕ) → WasTold newest epoch seat text → IsOfSeat 0 seat left → IfSome left (λ its. IsGivenIn its.1 its.0)
left_given newest epoch None left text h none = subst (λ (l : Option SessionLeft). IfSome l (λ its. IsGivenIn its.1 its.0)) (sym none) tt
left_given newest epoch (Some seat) left text h (its, is, named, entries, seen) =
    subst (λ (l : Option SessionLeft). IfSome l (λ its. IsGivenIn its.1 its.0)) (sym is) (given_at_end seat its.0 its.1 named (entries refl) seen h.1.given)

-- the whole of a session
pub writes : (newest : Bool) (epoch : ℕ) (seat : Option SeatView) (left : Option SessionLeft) (a b c : Option (List ℕ)) (gathered text last : List ℕ)
    → Gathers a b [] gathered text → Tells newest epoch None seat text → IsLastLine last → Appends b c (gathered ++ last) → IsOfSeat 0 seat left
    → IsWritten newest epoch left a c
writes newest epoch seat left a b c gathered text last h tells is adds end =
    (text, last, told_at_end newest epoch seat left text (tells [] ([], refl)) end, is, Gathers-end a b c gathered text last h adds)

-- ---- what is gathered, and what it reports

pub told_none : (newest : Bool) (epoch : ℕ) (writer : Option (List ℕ)) (out : List ℕ) (seat : Option SeatView) → ToldSo newest epoch writer writer out out seat seat
told_none newest epoch writer out seat = ([], Gathers-none writer out, Tells-same newest epoch seat)

-- what a flush keeps is reported as it was
pub told_kept : (newest : Bool) (epoch : ℕ) (a b : Option (List ℕ)) (out : List ℕ) (seat : Option SeatView) → Keeps a b → ToldSo newest epoch a b out out seat seat
told_kept newest epoch a b out seat keeps = ([], record { written = []; appends = Appends-kept a a b [] (Appends-nil a) keeps; whole = append-nil out }, Tells-same newest epoch seat)

pub told_on : (newest : Bool) (epoch : ℕ) (a b c : Option (List ℕ)) (x y z : List ℕ) (first next last : Option SeatView) → ToldSo newest epoch a b x y first next → ToldSo newest epoch b c y z next last → ToldSo newest epoch a c x z first last
told_on newest epoch a b c x y z first next last h k = (h.0 ++ k.0, Gathers-trans a b c x y z h.0 k.0 h.1 k.1, Tells-trans newest epoch first next last h.0 k.0 h.2 k.2)

pub told_line : (newest : Bool) (epoch : ℕ) (a b : Option (List ℕ)) (x y z line : List ℕ) (first last : Option SeatView) → y ≡ x ++ line → Tells newest epoch first last line → Gathers a b y z [] → ToldSo newest epoch a b x z first last
told_line newest epoch a b x y z line first last is tells h = (line ++ [], Gathers-trans a a b x y z line [] (Gathers-text a x y line is) h, Tells-trans newest epoch first last last line [] tells (Tells-same newest epoch last))

pub told_flushed : (newest : Bool) (epoch : ℕ) (a b c : Option (List ℕ)) (x y z : List ℕ) (first last : Option SeatView) → ToldSo newest epoch a b x y first last → Appends b c y → z ≡ [] → ToldSo newest epoch a c x z first last
told_flushed newest epoch a b c x y z first last h adds none = (h.0, Gathers-emptied a b c x y z h.0 h.1 adds none, h.2)

-- ---- the whole of a session

-- whether its last lines were written
pub session_written : {A E : Type 0} (newest : Bool) (epoch : ℕ) (r : Result A E) (seat : Option SeatView) (left : Option SessionLeft) (a b c : Option (List ℕ)) (gathered : List ℕ)
    → ToldSo newest epoch a b [] gathered None seat → OnOk r ((last : List ℕ) × IsLastLine last × Appends b c (gathered ++ last)) → IsOfSeat 0 seat left
    → IfOk r (λ done. IsWritten newest epoch left a c)
session_written newest epoch (Ok done) seat left a b c gathered told ended end = writes newest epoch seat left a b c gathered told.0 ended.0 told.1 told.2 ended.1 ended.2 end
session_written newest epoch (Err e) seat left a b c gathered told ended end = tt

pub named : (left : Option SessionLeft) (seat : Option SeatView) (names : List (List ℕ)) → IsOfSeat 0 seat left → IsSeated seat names → IfSome left (λ its. HasName names its.0.tenant)
named left None names none h = subst (λ (l : Option SessionLeft). IfSome l (λ its. HasName names its.0.tenant)) (sym none) tt
named left (Some seat) names (its, is, name, entries, seen) h = subst (λ (l : Option SessionLeft). IfSome l (λ its. HasName names its.0.tenant)) (sym is) (subst (HasName names) (sym name.tenant) h)

-- where a write went well, what was gathered is written
pub flushed : {A E : Type 0} (r : Result A E) (a b : Option (List ℕ)) (x z : List ℕ) → OnOk r (Appends a b x) → z ≡ [] → OnOk r (Gathers a b x z [])
flushed (Ok done) a b x z adds none = Gathers-written a b x x z [] (sym (append-nil x)) adds none
flushed (Err e) a b x z adds none = tt

-- ---- where a session breaks off

-- nothing more is reported, and nothing is written
pub breaks_here : (newest : Bool) (epoch : ℕ) (a : Option (List ℕ)) (x : List ℕ) (seat : Option SeatView) → BreaksTelling newest epoch seat seat a a x
breaks_here newest epoch a x seat = ([], 0, Tells-same newest epoch seat, Appends-nil a)

-- a beginning of what was gathered is written
pub breaks_at : (newest : Bool) (epoch : ℕ) (a b : Option (List ℕ)) (x : List ℕ) (seat : Option SeatView) (n : ℕ) → Appends a b (take n x) → BreaksTelling newest epoch seat seat a b x
breaks_at newest epoch a b x seat n adds = ([], n, Tells-same newest epoch seat, subst (λ (l : List ℕ). Appends a b (take n l)) (sym (append-nil x)) adds)

-- a line was reported before
pub breaks_line : (newest : Bool) (epoch : ℕ) (a b : Option (List ℕ)) (x y line : List ℕ) (first last : Option SeatView) (n : ℕ) → y ≡ x ++ line → Tells newest epoch first last line → Appends a b (take n y) → BreaksTelling newest epoch first last a b x
breaks_line newest epoch a b x y line first last n is tells adds = (line, n, tells, subst (λ (l : List ℕ). Appends a b (take n l)) is adds)

-- more was reported before
pub breaks_after : (newest : Bool) (epoch : ℕ) (a b c : Option (List ℕ)) (x y : List ℕ) (first next last : Option SeatView) → ToldSo newest epoch a b x y first next → BreaksTelling newest epoch next last b c y → BreaksTelling newest epoch first last a c x
breaks_after newest epoch a b c x y first next last h k =
    (h.0 ++ k.0, length h.1.written + k.1, Tells-trans newest epoch first next last h.0 k.0 h.2 k.2, begins_behind_gathered a b c x y h.0 k.0 k.1 h.1 k.3)

-- the whole of a session that breaks off
pub session_begun : (newest : Bool) (epoch : ℕ) (seat : Option SeatView) (left : Option SessionLeft) (a b : Option (List ℕ)) → BreaksTelling newest epoch None seat a b [] → IsOfSeat 0 seat left
    → IsBegun newest epoch left a b
session_begun newest epoch seat left a b h end = (
  h.0,
  [],
  h.1,
  told_at_end newest epoch seat left h.0 (h.2 [] ([], refl)) end,
  inl refl,
  subst (λ (l : List ℕ). Appends a b (take h.1 l)) (sym (append-nil h.0)) h.3,
)

-- so of what was gathered, and where it breaks off
pub given_gathered : (newest : Bool) (epoch : ℕ) (seat : Option SeatView) (left : Option SessionLeft) (a b : Option (List ℕ)) (gathered : List ℕ) → ToldSo newest epoch a b [] gathered None seat → IsOfSeat 0 seat left
    → IfSome left (λ its. IsGivenIn its.1 its.0)
given_gathered newest epoch seat left a b gathered told end = left_given newest epoch seat left told.0 (told.2 [] ([], refl)) end

pub given_broken : (newest : Bool) (epoch : ℕ) (seat : Option SeatView) (left : Option SessionLeft) (a b : Option (List ℕ)) → BreaksTelling newest epoch None seat a b [] → IsOfSeat 0 seat left
    → IfSome left (λ its. IsGivenIn its.1 its.0)
given_broken newest epoch seat left a b broken end = left_given newest epoch seat left broken.0 (broken.2 [] ([], refl)) end

-- the same where its last line could not be written
pub session_broken : {A E : Type 0} (newest : Bool) (epoch : ℕ) (r : Result A E) (seat : Option SeatView) (left : Option SessionLeft) (a b c : Option (List ℕ)) (gathered : List ℕ)
    → ToldSo newest epoch a b [] gathered None seat → IfErr r (λ fault. (last : List ℕ) × (n : ℕ) × IsLastLine last × Appends b c (take n (gathered ++ last)))
    → IsOfSeat 0 seat left → IfErr r (λ fault. IsBegun newest epoch left a c)
session_broken newest epoch (Ok done) seat left a b c gathered told ended end = tt
session_broken newest epoch (Err e) seat left a b c gathered told ended end = (
  told.0,
  ended.0,
  length told.1.written + ended.1,
  told_at_end newest epoch seat left told.0 (told.2 [] ([], refl)) end,
  ended.2,
  begins_behind_gathered a b c [] gathered told.0 ended.0 ended.1 told.1 ended.3,
)

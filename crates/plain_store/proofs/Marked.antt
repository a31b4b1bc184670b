-- No DISCARD of a run finds all marks used: each client that left a mark has said HELLO.
use Rattle.std.proofs.Common.{◌≡◌, ℕ, ◌+◌, ◌<◌, ◌≤◌, List, [], ◌∷◌, ◌++◌, Bool, true, false, ◌&&◌, ◌==◌, ◌⊎◌, inl, inr, refl, sym, ap, ◌∙◌, subst, cond, nat_eq, nat_le, nat_lt, length, map, filter, count_by, Some, eqb-true, eq-eqb, arith}
use Rattle.std.specs.List.{list_any}
use Rattle.std.proofs.lemmas.Bool.{and_parts, both_ways, leb-true, leb-false, ltb-true}
use Rattle.stamps.specs.Stamp.{client_of}
use Rattle.plain_store.specs.Words.{◌∈◌, Stamp, Item, Dropped, FullMarks, Act, Hello, Put, GetAll, Find, Stop, Answer, Ready, PutBegun, GetBegun, FindBegun, Stopped, Setup}
use Rattle.plain_store.specs.Log.{Log}
use Rattle.plain_store.specs.Log as logs
use Rattle.plain_store.specs.Marks.{discarded, is_of_client, mark, marked, once_each}
use Rattle.plain_store.specs.Replies.{discard_reply, is_droppable}
use Rattle.plain_store.specs.History.{History, log_at, session, session_after, Open, Closed, is_new, client_gained, clients_known, Intent, Writes, Gets, Finds, Transaction, begun_by, transactions}
use Rattle.plain_store.specs.Run.{tests, effect, moment_of}
use Rattle.plain_store.specs.Laws.{AreDifferent}
use Rattle.plain_store.proofs.Stamps.{≤_greatest}
use Rattle.plain_store.proofs.Members.{in_right, in_map, in_filter, filter_in, any_from}
use Rattle.plain_store.proofs.Steps.{moment_act}
use Rattle.plain_store.proofs.StaysTrue.{failed}
use Rattle.plain_store.proofs.Sound.{SoundCall, Sound}
use Rattle.plain_store.proofs.Cells.{discarded_is}
use Rattle.plain_store.proofs.KeptLogs.{Kept, NewBegun, begun_cases, log_failed}
use Rattle.plain_store.proofs.Honest.{HaveMarks}
use Rattle.plain_store.proofs.StepEffects.{after}

-- ---- counting

without : ℕ → List ℕ → List ℕ
without n [] = []
without n (m ∷ ms) = cond (n == m) ms (m ∷ without n ms)

shorter : (n : ℕ) (ns : List ℕ) → n ∈ ns → length (without n ns) + 1 ≤ length ns
unfolding without
shorter n [] h = absurd h
shorter n (m ∷ ms) h = go (n == m) refl h (shorter n ms)
  where
    go : (b : Bool) → (n == m) ≡ b → n ∈ (m ∷ ms) → (n ∈ ms → length (without n ms) + 1 ≤ length ms) → length (cond b ms (m ∷ without n ms)) + 1 ≤ length (m ∷ ms)
    go true e k rest = omega arith
    go false e (inl same) rest = absurd (both_ways _ e (eq-eqb n m same))
    go false e (inr k) rest = let l = rest k in omega (arith, l)

still_there : (n m : ℕ) (ns : List ℕ) → m ∈ ns → (m ≡ n → ⊥) → m ∈ without n ns
unfolding without
still_there n m [] h other = h
still_there n m (k ∷ ks) h other = go (n == k) refl h (λ i. still_there n m ks i other)
  where
    go : (b : Bool) → (n == k) ≡ b → m ∈ (k ∷ ks) → (m ∈ ks → m ∈ without n ks) → m ∈ cond b ks (k ∷ without n ks)
    go true e (inl same) rest = absurd (other (same ∙ sym (eqb-true n k e)))
    go true e (inr i) rest = i
    go false e (inl same) rest = inl same
    go false e (inr i) rest = inr (rest i)

-- different numbers that all stand in a list are no more than it has
fits : (ns ms : List ℕ) → AreDifferent ns → ((n : ℕ) → n ∈ ns → n ∈ ms) → length ns ≤ length ms
fits [] ms different within = omega arith
fits (n ∷ ns) ms different within =
    let l = fits ns (without n ms) different.1 (λ m h. still_there n m ms (within m (inr h)) (λ same. different.0 (subst (λ x. x ∈ ns) same h))) in
    let s = shorter n ms (within n (inl refl)) in
    omega (arith, l, s)

in_once : (ns : List ℕ) (n : ℕ) → n ∈ once_each ns → n ∈ ns
in_once [] n h = h
in_once (m ∷ ms) n h = go (list_any (nat_eq m) ms) h (in_once ms n)
  where
    go : (b : Bool) → n ∈ cond b (once_each ms) (m ∷ once_each ms) → (n ∈ once_each ms → n ∈ ms) → n ∈ (m ∷ ms)
    go true k rest = inr (rest k)
    go false (inl e) rest = inl e
    go false (inr k) rest = inr (rest k)

once_different : (ns : List ℕ) → AreDifferent (once_each ns)
once_different [] = tt
once_different (m ∷ ms) = go (list_any (nat_eq m) ms) refl (once_different ms)
  where
    go : (b : Bool) → list_any (nat_eq m) ms ≡ b → AreDifferent (once_each ms) → AreDifferent (cond b (once_each ms) (m ∷ once_each ms))
    go true e rest = rest
    go false e rest = (λ h. both_ways _ e (any_from (nat_eq m) ms m (in_once ms m h) (eq-eqb m m refl)), rest)

-- ---- who has said HELLO

new_client : Act → Answer → History → List ℕ
new_client (Hello client base) (Ready counter) older = cond (is_new (session older client)) (client ∷ []) []
new_client act answer older = []

pub known_clients : History → List ℕ
known_clients [] = []
known_clients (m ∷ older) = new_client m.act m.answer older ++ known_clients older

known_count : (history : History) → length (known_clients history) ≡ clients_known history
unfolding known_clients new_client
known_count [] = refl
known_count (m ∷ older) = go m.act m.answer (known_count older)
  where
    go : (act : Act) (answer : Answer) → length (known_clients older) ≡ clients_known older → length (new_client act answer older ++ known_clients older) ≡ client_gained act answer older + clients_known older
    go (Hello client base) (Ready counter) rest = by (is_new (session older client))
      where
        by : (b : Bool) → length (cond b (client ∷ []) [] ++ known_clients older) ≡ cond b 1 0 + clients_known older
        by true = omega (arith, rest)
        by false = omega (arith, rest)
    go act answer rest = omega (arith, rest)

hello_room : (setup : Setup) (older : History) (client base : ℕ) (counter : ℕ) → (moment_of setup older (Hello client base)).answer ≡ Ready counter → (is_new (session older client) && nat_le setup.room.clients (clients_known older)) ≡ false
unfolding moment_of effect
hello_room setup older client base counter =
    after (Hello client base) (tests setup older (Hello client base)) (effect setup older (Hello client base))
    (λ m. m.answer ≡ Ready counter → (is_new (session older client) && nat_le setup.room.clients (clients_known older)) ≡ false) (λ why h. cc) (λ pass h. pass.1.0)

stop_known : (setup : Setup) (older : History) (client : ℕ) → (moment_of setup older (Stop client)).answer ≡ Stopped → is_new (session older client) ≡ false
unfolding moment_of effect
stop_known setup older client =
    after (Stop client) (tests setup older (Stop client)) (effect setup older (Stop client)) (λ m. m.answer ≡ Stopped → is_new (session older client) ≡ false) (λ why h. cc) (λ pass h. pass.0)

put_known : (setup : Setup) (older : History) (client : ℕ) (items : List Item) (begun : ℕ × Intent) → begun_by (moment_of setup older (Put client items)).act (moment_of setup older (Put client items)).answer ≡ Some begun
    → is_new (session older client) ≡ false
unfolding moment_of effect
put_known setup older client items begun =
    after (Put client items) (tests setup older (Put client items)) (effect setup older (Put client items)) (λ m. begun_by m.act m.answer ≡ Some begun → is_new (session older client) ≡ false) (λ why h. cc) (λ pass h. pass.1.0)

pub record Greeted (setup : Setup) (history : History) : Type 0 where
  pub few : length (known_clients history) ≤ setup.room.clients
  pub sessions : (client : ℕ) → is_new (session history client) ≡ false → client ∈ known_clients history
  pub writers : (transaction : Transaction) (stamp : Stamp) (items : List Item) → transaction ∈ transactions history → transaction.request ≡ Writes stamp items → transaction.client ∈ known_clients history

pub greeted_at_first : (setup : Setup) → Greeted setup []
unfolding known_clients
greeted_at_first setup = record { few = omega arith; sessions = λ client h. cc; writers = λ transaction stamp items h e. absurd h }

few_step : (setup : Setup) (older : History) (act : Act) → Greeted setup older → length (known_clients (moment_of setup older act ∷ older)) ≤ setup.room.clients
unfolding known_clients new_client
few_step setup older act greeted = go (moment_of setup older act).act (moment_of setup older act).answer refl refl
  where
    few : length (known_clients older) ≤ setup.room.clients
    few = greeted.few

    go : (a : Act) (w : Answer) → (moment_of setup older act).act ≡ a → (moment_of setup older act).answer ≡ w → length (new_client a w older ++ known_clients older) ≤ setup.room.clients
    go (Hello client base) (Ready counter) ea ew = by (is_new (session older client)) refl
      where
        same : act ≡ Hello client base
        same = sym (moment_act setup older act) ∙ ea

        room : (is_new (session older client) && nat_le setup.room.clients (clients_known older)) ≡ false
        room = hello_room setup older client base counter (subst (λ x. (moment_of setup older x).answer ≡ Ready counter) same ew)

        by : (b : Bool) → is_new (session older client) ≡ b → length (cond b (client ∷ []) [] ++ known_clients older) ≤ setup.room.clients
        by true e =
            let free : nat_le setup.room.clients (clients_known older) ≡ false = ap (λ b. b && nat_le setup.room.clients (clients_known older)) (sym e) ∙ room in
            let less : clients_known older < setup.room.clients = leb-false setup.room.clients (clients_known older) free in
            omega (arith, less, known_count older)
        by false e = few
    go a w ea ew = few

sessions_step : (setup : Setup) (older : History) (act : Act) (c : ℕ) → Greeted setup older → is_new (session (moment_of setup older act ∷ older) c) ≡ false → c ∈ known_clients (moment_of setup older act ∷ older)
unfolding known_clients new_client
sessions_step setup older act c greeted = go (moment_of setup older act).act (moment_of setup older act).answer refl refl
  where
    go : (a : Act) (w : Answer) → (moment_of setup older act).act ≡ a → (moment_of setup older act).answer ≡ w → is_new (session_after a w c (session older c)) ≡ false → c ∈ (new_client a w older ++ known_clients older)
    go (Hello client base) (Ready counter) ea ew h = by (client == c) refl (is_new (session older client)) refl h
      where
        by : (b : Bool) → (client == c) ≡ b → (n : Bool) → is_new (session older client) ≡ n → is_new (session_after (Hello client base) (Ready counter) c (session older c)) ≡ false
            → c ∈ (cond n (client ∷ []) [] ++ known_clients older)
        by true t true e h = inl (sym (eqb-true client c t))
        by true t false e h = greeted.sessions c (subst (λ x. is_new (session older x) ≡ false) (eqb-true client c t) e)
        by false t true e h = inr (greeted.sessions c (ap (λ b. is_new (cond b Open (session older c))) (sym t) ∙ h))
        by false t false e h = greeted.sessions c (ap (λ b. is_new (cond b Open (session older c))) (sym t) ∙ h)
    go (Stop client) Stopped ea ew h = by (client == c) refl
      where
        same : act ≡ Stop client
        same = sym (moment_act setup older act) ∙ ea

        by : (b : Bool) → (client == c) ≡ b → c ∈ known_clients older
        by true t = greeted.sessions c (subst (λ x. is_new (session older x) ≡ false) (eqb-true client c t) (stop_known setup older client (subst (λ x. (moment_of setup older x).answer ≡ Stopped) same ew)))
        by false t = greeted.sessions c (ap (λ b. is_new (cond b Closed (session older c))) (sym t) ∙ h)
    go a w ea ew h = greeted.sessions c h

writers_step : (setup : Setup) (older : History) (act : Act) (transaction : Transaction) (stamp : Stamp) (items : List Item) → Greeted setup older
    → (transaction ∈ transactions older) ⊎ NewBegun older (moment_of setup older act) transaction → transaction.request ≡ Writes stamp items → transaction.client ∈ known_clients (moment_of setup older act ∷ older)
unfolding known_clients
writers_step setup older act transaction stamp items greeted (inl h) e =
    in_right (new_client (moment_of setup older act).act (moment_of setup older act).answer older) (known_clients older) transaction.client (greeted.writers transaction stamp items h e)
writers_step setup older act transaction stamp items greeted (inr n) e = go (moment_of setup older act).act (moment_of setup older act).answer refl n.1
  where
    request : n.0.1 ≡ Writes stamp items
    request = ap (λ (t : Transaction). t.request) (sym n.2) ∙ e

    here : n.0.0 ∈ known_clients older → transaction.client ∈ (new_client (moment_of setup older act).act (moment_of setup older act).answer older ++ known_clients older)
    here h = in_right (new_client (moment_of setup older act).act (moment_of setup older act).answer older) (known_clients older) transaction.client
        (subst (λ (t : Transaction). t.client ∈ known_clients older) (sym n.2) h)

    go : (a : Act) (w : Answer) → (moment_of setup older act).act ≡ a → begun_by a w ≡ Some n.0 → transaction.client ∈ (new_client (moment_of setup older act).act (moment_of setup older act).answer older ++ known_clients older)
    go (Put client written) (PutBegun s rows) ea b =
        let same : act ≡ Put client written = sym (moment_act setup older act) ∙ ea in
        let both : (client, Writes s written) ≡ n.0 = cc in
        let known = put_known setup older client written n.0 (subst (λ x. begun_by (moment_of setup older x).act (moment_of setup older x).answer ≡ Some n.0) same n.1) in
        here (subst (λ x. x ∈ known_clients older) (ap (λ (x : ℕ × Intent). x.0) both) (greeted.sessions client known))
    go (GetAll client keys) (GetBegun rows) ea b = let both : (client, Gets keys) ≡ n.0 = cc in let r : Gets keys ≡ Writes stamp items = ap (λ (x : ℕ × Intent). x.1) both ∙ request in cc
    go (Find client tag) (FindBegun rows) ea b = let both : (client, Finds tag) ≡ n.0 = cc in let r : Finds tag ≡ Writes stamp items = ap (λ (x : ℕ × Intent). x.1) both ∙ request in cc
    go a w ea b = cc

pub greeted_step : (setup : Setup) (older : History) (act : Act) → Greeted setup older → Greeted setup (moment_of setup older act ∷ older)
greeted_step setup older act greeted = record {
  few = few_step setup older act greeted;
  sessions = λ client h. sessions_step setup older act client greeted h;
  writers = λ transaction stamp items h e. writers_step setup older act transaction stamp items greeted (begun_cases (moment_of setup older act) older transaction h) e;
}

-- ---- marks

-- who gave a stamp up has said HELLO
failed_known : (setup : Setup) (history : History) (stamp : Stamp) → Kept setup history → Greeted setup history → stamp ∈ failed history → client_of stamp ∈ known_clients history
failed_known setup history stamp kept greeted f =
    let w = kept.gave_up stamp f in
    let t = w.1 in
    subst (λ c. c ∈ known_clients history) (sym (kept.owned t.0 stamp w.0 t.1 t.2)) (greeted.writers t.0 stamp w.0 t.1 t.2)

-- a client that is marked has a mark
marked_mark : (log : Log) (client : ℕ) → client ∈ marked log → (mark log client == 0) ≡ true → ⊥
marked_mark log client h none =
    let i = in_map client_of (filter (nat_lt 0) (discarded log)) client (in_once (map client_of (filter (nat_lt 0) (discarded log))) client h) in
    let f = in_filter (nat_lt 0) (discarded log) i.0 i.1 in
    let above : 0 < i.0 = ltb-true 0 i.0 f.1 in
    let l : i.0 ≤ mark log client = ≤_greatest (filter (is_of_client client) (discarded log)) i.0 (filter_in (is_of_client client) (discarded log) i.0 f.0 (eq-eqb (client_of i.0) client (sym i.2))) in
    let z : mark log client ≡ 0 = eqb-true (mark log client) 0 none in
    omega (arith, above, l, z)

pub have_marks : (setup : Setup) (history : History) → Kept setup history → Greeted setup history → HaveMarks setup history
unfolding discard_reply
have_marks setup history kept greeted message stamp h c full = go (stamp == 0) full
  where
    log : Log
    log = log_at setup history message.partition

    client : ℕ
    client = client_of stamp

    here : client ∈ known_clients history
    here =
        let sound : Sound setup history message = kept.sound message h in
        failed_known setup history stamp kept greeted (subst (λ x. SoundCall setup history message x) c sound.call).0

    each : (n : ℕ) → n ∈ marked log → n ∈ known_clients history
    each n k =
        let i = in_map client_of (filter (nat_lt 0) (discarded log)) n (in_once (map client_of (filter (nat_lt 0) (discarded log))) n k) in
        let f = in_filter (nat_lt 0) (discarded log) i.0 i.1 in
        subst (λ x. x ∈ known_clients history) (sym i.2) (failed_known setup history i.0 kept greeted (log_failed setup history message.partition i.0 kept (discarded_is log i.0 f.0)))

    within : (n : ℕ) → n ∈ (client ∷ marked log) → n ∈ known_clients history
    within n (inl same) = subst (λ x. x ∈ known_clients history) (sym same) here
    within n (inr k) = each n k

    used : ((mark log client == 0) && nat_le setup.room.clients (length (marked log))) ≡ true → ⊥
    used t =
        let p = and_parts (mark log client == 0) (nat_le setup.room.clients (length (marked log))) t in
        let l = fits (client ∷ marked log) (known_clients history) (λ k. marked_mark log client k p.0, once_different (map client_of (filter (nat_lt 0) (discarded log)))) within in
        let many = leb-true setup.room.clients (length (marked log)) p.1 in
        omega (arith, l, many, greeted.few)

    other : (b : Bool) → ((mark log client == 0) && nat_le setup.room.clients (length (marked log))) ≡ b → cond b FullMarks (Dropped (count_by (is_droppable log stamp) (logs.kept log))) ≡ FullMarks → ⊥
    other true t e = used t
    other false t e = cc

    go : (b : Bool) → cond b (Dropped 0) (cond ((mark log client == 0) && nat_le setup.room.clients (length (marked log))) FullMarks (Dropped (count_by (is_droppable log stamp) (logs.kept log)))) ≡ FullMarks → ⊥
    go true e = cc
    go false e = other ((mark log client == 0) && nat_le setup.room.clients (length (marked log))) refl e

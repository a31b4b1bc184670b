use Rattle.std.proofs.Common.{◌≡◌, ◌∙◌, ℕ, List, refl, sym, subst, ap}
use Rattle.plain_store.specs.declared.message.Message.{Message}
use Rattle.plain_store.specs.Words.{Stamp, Setup, Item}
use Rattle.plain_store.specs.History.{Intent, Writes}
use Rattle.plain_store.specs.Writing.{Outgoing}
use Rattle.put_all.specs.declared.writer.Writer.{Writer}
use Rattle.get_all.specs.declared.reader.Reader.{Reader}
use Rattle.get_all.specs.declared.tag_search.TagSearch.{TagSearch}
use Rattle.tenant_sessions.specs.Holding.{RunningMachine, Machine, Write, machine_of}
use Rattle.tenant_sessions.specs.Moves.{Move, moved}
use Rattle.tenant_sessions.specs.Running.{IsReplyTo, IsWriting, RunsAs, RunningStands, TakesMessage}
use Rattle.tenant_sessions.specs.Showing.{HasTaken, Shows}
use Rattle.tenant_sessions.specs.declared.running.TransactionKind.{TransactionKind}
use Rattle.tenant_sessions.proofs.Shown.{shown_written, shown_read, shown_found}
use Rattle.tenant_sessions.proofs.running.Running.take.Goals as goal

-- what it stands for may be told in other words
told_so : (setup : Setup) (request : Intent) (taken : List Message) (message : Message) (answer : Move) (Stands Other : List Message → Type 0)
    → ((replies : List Message) → Stands replies → Other replies) → TakesMessage setup request taken message answer Stands → TakesMessage setup request taken message answer Other
told_so setup request taken message answer Stands Other so t = record {
  repeated = λ before. let r = t.repeated before in (r.0, so taken r.1);
  answered = t.answered;
  goes_on = λ new last. so _ (t.goes_on new last);
  sent = t.sent;
  few = t.few;
}

module _ (setup : Setup) (request : Intent) (taken : List Message) (message : Message) (answer : Move) (new : RunningMachine) (waiting : List Outgoing)
    (parts : new.parts ≡ setup.partitions) (is : IsReplyTo setup request taken message) where
  abbrev Stands : List Message → Type 0
  Stands replies = RunningStands setup request replies new

  wrote : (stamp : Stamp) (writer after : Writer) → new.machine ≡ Write stamp after → RunsAs setup request taken (Write stamp writer) waiting
      → ((items : List Item) → IsWriting setup stamp items taken writer waiting → IsReplyTo setup (Writes stamp items) taken message
      → TakesMessage setup (Writes stamp items) taken message answer (λ replies. IsWriting setup stamp items replies after new.waiting))
      → TakesMessage setup request taken message answer Stands
  wrote stamp writer after machine runs takes = go request is runs
    where
      go : (r : Intent) → IsReplyTo setup r taken message → RunsAs setup r taken (Write stamp writer) waiting → TakesMessage setup r taken message answer (λ replies. RunningStands setup r replies new)
      go (Writes own items) to (same, writing) =
          let P : Stamp → Type 0 = λ s. IsReplyTo setup (Writes s items) taken message → IsWriting setup s items taken writer waiting
          → TakesMessage setup (Writes s items) taken message answer (λ replies. RunningStands setup (Writes s items) replies new) in
          let Q : Machine → Type 0 = λ m. (replies : List Message) → IsWriting setup stamp items replies after new.waiting → RunsAs setup (Writes stamp items) replies m new.waiting in
          let stands = subst Q (sym machine) (λ replies w. (refl, w)) in
          subst P same (λ reply w. told_so setup (Writes stamp items) taken message answer _ _ (λ replies w. record { parts = parts; runs = stands replies w }) (takes items w reply)) to writing
      go _ to none = absurd none

pub returns-in-Put-clause-takes : goal.returns-in-Put-clause-takes
returns-in-Put-clause-takes c = λ setup request taken stands is.
    let w = c.self.inside in
    let s = subst (λ (t : RunningMachine). RunningStands setup request taken t) (sym c.self.view_is) stands in
    wrote setup request taken c.args.message.now (moved c.take_written.new.kind c.args.readings.now) _ w.waiting s.parts is w.stamp w.writer c.take_written.new.writer
    (ap (λ k. machine_of k w.stamp c.take_written.new.writer w.reader w.search) c.in-Put.is)
    (subst (λ (m : Machine). RunsAs setup request taken m w.waiting) (ap (λ k. machine_of k w.stamp w.writer w.reader w.search) c.in-Put.is) s.runs)
    (λ items writing to. c.take_written.ensures.takes setup items taken c.args.readings.now (sym s.parts) writing to)

pub returns-in-Put-clause-shown : goal.returns-in-Put-clause-shown
returns-in-Put-clause-shown c = λ setup request taken has.
    let w = c.self.inside in
    let at = subst (λ (t : RunningMachine). HasTaken setup request taken t.machine) (sym c.self.view_is) has in
    let writes = subst (λ (k : TransactionKind). HasTaken setup request taken (machine_of k w.stamp w.writer w.reader w.search)) c.in-Put.is at in
    subst (λ (k : TransactionKind). Shows setup request taken c.args.message.now (moved c.take_written.new.kind c.args.readings.now) (λ replies. HasTaken setup request replies (machine_of k w.stamp c.take_written.new.writer w.reader w.search)))
    (sym c.in-Put.is) (shown_written setup request taken c.args.message.now _ w.stamp w.writer c.take_written.new.writer (λ items. c.take_written.ensures.shown setup items taken c.args.readings.now) writes)

pub returns-in-Get-clause-shown : goal.returns-in-Get-clause-shown
returns-in-Get-clause-shown c = λ setup request taken has.
    let w = c.self.inside in
    let at = subst (λ (t : RunningMachine). HasTaken setup request taken t.machine) (sym c.self.view_is) has in
    let reads = subst (λ (k : TransactionKind). HasTaken setup request taken (machine_of k w.stamp w.writer w.reader w.search)) c.in-Get.is at in
    subst (λ (k : TransactionKind). Shows setup request taken c.args.message.now (moved c.take_read.new.kind c.take_read.new.readings) (λ replies. HasTaken setup request replies (machine_of k w.stamp w.writer c.take_read.new.reader w.search)))
    (sym c.in-Get.is) (shown_read setup request taken c.args.message.now _ w.reader c.take_read.new.reader (λ keys. c.take_read.ensures.shown setup keys taken) reads)

pub returns-in-Find-clause-shown : goal.returns-in-Find-clause-shown
returns-in-Find-clause-shown c = λ setup request taken has.
    let w = c.self.inside in
    let at = subst (λ (t : RunningMachine). HasTaken setup request taken t.machine) (sym c.self.view_is) has in
    let finds = subst (λ (k : TransactionKind). HasTaken setup request taken (machine_of k w.stamp w.writer w.reader w.search)) c.in-Find.is at in
    subst (λ (k : TransactionKind). Shows setup request taken c.args.message.now (moved c.take_found.new.kind c.take_found.new.readings) (λ replies. HasTaken setup request replies (machine_of k w.stamp w.writer c.take_found.new.reader c.take_found.new.search)))
    (sym c.in-Find.is) (shown_found setup request taken c.args.message.now _ w.search c.take_found.new.search w.reader c.take_found.new.reader (λ tag. c.take_found.ensures.shown setup tag taken) finds)

-- where nothing is taken it is as it was
abbrev viewed : TransactionKind → Stamp → ℕ → Writer → Reader → TagSearch → List Outgoing → RunningMachine
viewed kind stamp parts writer reader search waiting = record { machine = machine_of kind stamp writer reader search; waiting = waiting; parts = parts }

same_view : (kind : TransactionKind) (stamp : Stamp) (parts : ℕ) (writer new_writer : Writer) (reader new_reader : Reader) (search new_search : TagSearch) (waiting new_waiting : List Outgoing)
    → new_writer ≡ writer → new_reader ≡ reader → new_search ≡ search → new_waiting ≡ waiting
    → viewed kind stamp parts new_writer new_reader new_search new_waiting ≡ viewed kind stamp parts writer reader search waiting
same_view kind stamp parts writer new_writer reader new_reader search new_search waiting new_waiting a b c d = λ i. viewed kind stamp parts (a i) (b i) (c i) (d i)

pub returns-in-Put-clause-foreign : goal.returns-in-Put-clause-foreign
returns-in-Put-clause-foreign c = λ other.
    let w = c.self.inside in
    let left = c.take_written.ensures.foreign other in
    (left.0, same_view w.kind w.stamp w.parts w.writer _ w.reader _ w.search _ w.waiting _ left.1 refl refl left.2 ∙ c.self.view_is)

pub returns-in-Get-clause-foreign : goal.returns-in-Get-clause-foreign
returns-in-Get-clause-foreign c = λ other.
    let w = c.self.inside in
    let left = c.take_read.ensures.foreign other in
    (left.0, same_view w.kind w.stamp w.parts w.writer _ w.reader _ w.search _ w.waiting _ refl left.1 refl left.2 ∙ c.self.view_is)

pub returns-in-Find-clause-foreign : goal.returns-in-Find-clause-foreign
returns-in-Find-clause-foreign c = λ other.
    let w = c.self.inside in
    let left = c.take_found.ensures.foreign other in
    (left.0, same_view w.kind w.stamp w.parts w.writer _ w.reader _ w.search _ w.waiting _ refl left.2 left.1 left.3 ∙ c.self.view_is)

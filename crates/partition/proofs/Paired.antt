-- A call and a reply to such a call are the parts of their pair.
use Rattle.std.proofs.Common.{◌≡◌, Bool, true, IsTrue, refl, ap, sym, ◌∙◌}
use Rattle.std.specs.Prelude.{◌↔◌}
use Rattle.stamps.specs.Record.{Record, record_eq}
use Rattle.stamps.specs.RecordLaws.{record_eq-Decides}
use Rattle.plain_store.specs.FoundKeys.{Findings, found_eq}
use Rattle.plain_store.specs.FoundLaws.{found_eq-Decides}
use Rattle.plain_store.specs.declared.calls.ReadReply.{ReadReply}
use Rattle.plain_store.specs.declared.calls.Call.{Call}
use Rattle.plain_store.specs.declared.calls.Call.TheVariants.{Prepare, Commit, Get, Found, Collect, Discard}
use Rattle.plain_store.specs.declared.calls.Reply.{Reply}
use Rattle.plain_store.specs.declared.calls.Reply.TheVariants.{Prepare as ToPrepare, Committed as ToCommit}
use Rattle.plain_store.specs.declared.calls.Reply.TheVariants.{Get as ToGet, Found as ToFound, Freed as ToCollect}
use Rattle.plain_store.specs.declared.calls.Reply.TheVariants.{Discard as ToDiscard}
use Rattle.partition.specs.Events.{is_reply_to}
use Rattle.partition.specs.Pairs.{call_of, reply_in_pair, pair_of}
use Rattle.plain_store.proofs.EqualReplies.{read_eq, read_same, read_self}

pub call_of-pair : (call : Call) (reply : Reply) → is_reply_to call reply ≡ true → call_of (pair_of call reply) ≡ call
call_of-pair (Prepare version) (ToPrepare told) is = refl
call_of-pair (Commit stamp) (ToCommit count) is = refl
call_of-pair (Get key stamp) (ToGet told) is = refl
call_of-pair (Found tag) (ToFound found) is = refl
call_of-pair (Collect keep) (ToCollect count) is = refl
call_of-pair (Discard stamp) (ToDiscard told) is = refl
call_of-pair call reply is = cc

pub reply_of-pair : (call : Call) (reply : Reply) → is_reply_to call reply ≡ true → reply_in_pair (pair_of call reply) ≡ reply
reply_of-pair (Prepare version) (ToPrepare told) is = refl
reply_of-pair (Commit stamp) (ToCommit count) is = refl
reply_of-pair (Get key stamp) (ToGet told) is = refl
reply_of-pair (Found tag) (ToFound found) is = refl
reply_of-pair (Collect keep) (ToCollect count) is = refl
reply_of-pair (Discard stamp) (ToDiscard told) is = refl
reply_of-pair call reply is = cc

-- ---- what is tested of the parts holds of the whole

pub same_prepare : (test : Bool) (v w : Record) → test ≡ record_eq v w → IsTrue test ↔ (Prepare v ≡ Prepare w)
same_prepare test v w is = (λ t. ap Prepare ((record_eq-Decides v w).0 (sym is ∙ t)), λ e. is ∙ (record_eq-Decides v w).1 (record_is e))
  where
    record_is : Prepare v ≡ Prepare w → v ≡ w
    record_is e = cc

pub same_found : (test : Bool) (f g : Findings) → test ≡ found_eq f g → IsTrue test ↔ (ToFound f ≡ ToFound g)
same_found test f g is = (λ t. ap ToFound ((found_eq-Decides f g).0 (sym is ∙ t)), λ e. is ∙ (found_eq-Decides f g).1 (found_is e))
  where
    found_is : ToFound f ≡ ToFound g → f ≡ g
    found_is e = cc

pub same_get : (test : Bool) (r s : ReadReply) → test ≡ read_eq r s → IsTrue test ↔ (ToGet r ≡ ToGet s)
same_get test r s is = (λ t. ap ToGet (read_same r s (sym is ∙ t)), λ e. is ∙ ap (read_eq r) (sym (get_is e)) ∙ read_self r)
  where
    get_is : ToGet r ≡ ToGet s → r ≡ s
    get_is e = cc

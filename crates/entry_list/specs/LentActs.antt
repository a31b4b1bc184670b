-- Which act a list of entries was given by reference.
use Rattle.plain_store.specs.declared.step.Act.{Act}
use Rattle.plain_store.specs.declared.step.Act.TheVariants.{Put as PutAct, Get as GetAct, Find as FindAct}
use Rattle.entry_list.specs.declared.kinds.LentAct.{LentAct}
use Rattle.entry_list.specs.declared.kinds.LentAct.TheVariants.{Put, Get, Find, Whole}

abbrev pub act_lent : LentAct → Act
act_lent (Put client items) = PutAct client items.now
act_lent (Get client keys) = GetAct client keys.now
act_lent (Find client tag) = FindAct client tag
act_lent (Whole act) = act.now

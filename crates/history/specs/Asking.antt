-- The entries that steps ask for.
use Rattle.history.specs.declared.entry.HistoryEntry.{HistoryEntry}
use Rattle.history.specs.declared.entry.HistoryEntry.TheVariants.{Opened, Began, Served}
use Rattle.history.specs.declared.entry.CallToServe.{CallToServe}
use Rattle.history.specs.declared.entry.WriteToBegin.{WriteToBegin}
use Rattle.history.specs.declared.entry.StoreToOpen.{StoreToOpen}

abbrev pub opened_by : StoreToOpen → HistoryEntry
opened_by given = Opened (record { parts = given.parts; limits = given.limits.now })

abbrev pub began_by : WriteToBegin → HistoryEntry
began_by begun = Began (record { word = begun.word; tenant = begun.tenant; stamp = begun.stamp; items = begun.items.now })

abbrev pub served_by : CallToServe → HistoryEntry
served_by asked =
    Served (record {
      partition = asked.partition;
      tenant = asked.tenant;
      seat = asked.seat;
      number = asked.number;
      call = asked.call.now;
    })

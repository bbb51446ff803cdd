use Rattle.std.proofs.Common.{◌≡◌, Option, Some, map, sym, ap, subst, ◌∙◌}
use Rattle.wcrun.specs.{Words.Command, Words.words_of, Words.command_of, Headline.reading, Headline.writing, Headline.verb_in, Headline.Headline, Headline.Decides, Load.supply_of}
use Rattle.wcrun.specs.declared.command.Verb.{Verb}
use Rattle.wcrun.proofs.Commands.{run_told, probe_told, check_told}
use Rattle.wcrun.proofs.{Headlines.headline_of_usage, Outcomes.decides_usage, Outcomes.complete_usage}
use Rattle.wcrun.proofs.calls.top.Goals as goal

pub returns-in-None-clause-headline : goal.returns-in-None-clause-headline
returns-in-None-clause-headline g c = headline_of_usage _ _ _ (sym c.in-None.ensures.told) c.usage.ensures

pub returns-in-None-clause-decided : goal.returns-in-None-clause-decided
returns-in-None-clause-decided g c = decides_usage _ _ _ (sym c.in-None.ensures.told) c.usage.ensures

pub returns-in-None-clause-complete : goal.returns-in-None-clause-complete
returns-in-None-clause-complete g c =
    complete_usage (reading (command_of (words_of c.args.words.now)) (g.F.Files.content c.args.files.now) (g.F.Files.faults c.args.files.now) (g.F.Files.faults c.args.files.now) (g.F.Files.bytes_read c.args.files.now) (g.F.Files.bytes_read c.args.files.now) (g.F.Files.failed_names c.args.files.now) (g.F.Files.failed_names c.args.files.now))
    (writing (g.S.Sink.told c.args.sink.now) (g.S.Sink.told c.usage.new.sink) (g.S.Sink.faults c.args.sink.now) (g.S.Sink.faults c.usage.new.sink) c.usage.result) (sym c.in-None.ensures.told)

pub returns-in-Some-Load-default-default-clause-headline : goal.returns-in-Some-Load-default-default-clause-headline
returns-in-Some-Load-default-default-clause-headline g c =
    let h = c.in-Some-Load-default-default.field-0-0-is in
    let i = c.in-Some-Load-default-default.load-is in
    let q : c.in-Some-Load-default-default.field-0-0 ≡ Verb.Load c.in-Some-Load-default-default.load = cc in
    c.run_load.ensures.headline (reading (command_of (words_of c.args.words.now)) (g.F.Files.content c.args.files.now) (g.F.Files.faults c.args.files.now) (g.F.Files.faults c.args.files.now) (g.F.Files.bytes_read c.args.files.now) (g.F.Files.bytes_read c.args.files.now) (g.F.Files.failed_names c.args.files.now) (g.F.Files.failed_names c.args.files.now)) (ap verb_in (sym c.in-Some-Load-default-default.ensures.told) ∙ ap (λ (v : Verb). Some v) q)

pub returns-in-Some-Load-default-default-clause-decided : goal.returns-in-Some-Load-default-default-clause-decided
returns-in-Some-Load-default-default-clause-decided g c =
    let h = c.in-Some-Load-default-default.field-0-0-is in
    let i = c.in-Some-Load-default-default.load-is in
    let q : c.in-Some-Load-default-default.field-0-0 ≡ Verb.Load c.in-Some-Load-default-default.load = cc in
    c.run_load.ensures.decided (reading (command_of (words_of c.args.words.now)) (g.F.Files.content c.args.files.now) (g.F.Files.faults c.args.files.now) (g.F.Files.faults c.args.files.now) (g.F.Files.bytes_read c.args.files.now) (g.F.Files.bytes_read c.args.files.now) (g.F.Files.failed_names c.args.files.now) (g.F.Files.failed_names c.args.files.now)) (ap verb_in (sym c.in-Some-Load-default-default.ensures.told) ∙ ap (λ (v : Verb). Some v) q)

pub returns-in-Some-Load-default-default-clause-complete : goal.returns-in-Some-Load-default-default-clause-complete
returns-in-Some-Load-default-default-clause-complete g c =
    let h = c.in-Some-Load-default-default.field-0-0-is in
    let i = c.in-Some-Load-default-default.load-is in
    let q : c.in-Some-Load-default-default.field-0-0 ≡ Verb.Load c.in-Some-Load-default-default.load = cc in
    c.run_load.ensures.complete (reading (command_of (words_of c.args.words.now)) (g.F.Files.content c.args.files.now) (g.F.Files.faults c.args.files.now) (g.F.Files.faults c.args.files.now) (g.F.Files.bytes_read c.args.files.now) (g.F.Files.bytes_read c.args.files.now) (g.F.Files.failed_names c.args.files.now) (g.F.Files.failed_names c.args.files.now)) (ap verb_in (sym c.in-Some-Load-default-default.ensures.told) ∙ ap (λ (v : Verb). Some v) q)

pub returns-in-Some-Run-default-default-clause-headline : goal.returns-in-Some-Run-default-default-clause-headline
returns-in-Some-Run-default-default-clause-headline g c =
    let h = c.in-Some-Run-default-default.field-0-0-is in
    let i = c.in-Some-Run-default-default.mode-is in
    let q : c.in-Some-Run-default-default.field-0-0 ≡ Verb.Run c.in-Some-Run-default-default.mode = cc in
    subst (λ (x : Option Command). Headline (reading x (g.F.Files.content c.args.files.now) (g.F.Files.faults c.args.files.now) (g.F.Files.faults c.run_named.new.files) (g.F.Files.bytes_read c.args.files.now) (g.F.Files.bytes_read c.run_named.new.files) (g.F.Files.failed_names c.args.files.now) (g.F.Files.failed_names c.run_named.new.files)) (supply_of (map g.C.Coder.coder c.args.coders.items) (map g.K.Clock.told c.args.clocks.items)) (writing (g.S.Sink.told c.args.sink.now) (g.S.Sink.told c.run_named.new.sink) (g.S.Sink.faults c.args.sink.now) (g.S.Sink.faults c.run_named.new.sink) c.run_named.result)) (run_told (command_of (words_of c.args.words.now)) c.in-Some-Run-default-default.field-0-0 c.in-Some-Run-default-default.mode c.in-Some-Run-default-default.name.now c.in-Some-Run-default-default.field-0-2.now q c.in-Some-Run-default-default.ensures.named c.in-Some-Run-default-default.ensures.told) c.run_named.ensures.headline

pub returns-in-Some-Probe-default-default-clause-headline : goal.returns-in-Some-Probe-default-default-clause-headline
returns-in-Some-Probe-default-default-clause-headline g c =
    let h = c.in-Some-Probe-default-default.field-0-0-is in
    let q : c.in-Some-Probe-default-default.field-0-0 ≡ Verb.Probe = cc in
    subst (λ (x : Option Command). Headline (reading x (g.F.Files.content c.args.files.now) (g.F.Files.faults c.args.files.now) (g.F.Files.faults c.probe_named.new.files) (g.F.Files.bytes_read c.args.files.now) (g.F.Files.bytes_read c.probe_named.new.files) (g.F.Files.failed_names c.args.files.now) (g.F.Files.failed_names c.probe_named.new.files)) (supply_of (map g.C.Coder.coder c.args.coders.items) (map g.K.Clock.told c.args.clocks.items)) (writing (g.S.Sink.told c.args.sink.now) (g.S.Sink.told c.probe_named.new.sink) (g.S.Sink.faults c.args.sink.now) (g.S.Sink.faults c.probe_named.new.sink) c.probe_named.result)) (probe_told (command_of (words_of c.args.words.now)) c.in-Some-Probe-default-default.field-0-0 c.in-Some-Probe-default-default.name.now c.in-Some-Probe-default-default.field-0-2.now q c.in-Some-Probe-default-default.ensures.named c.in-Some-Probe-default-default.ensures.told) (c.probe_named.ensures.headline (supply_of (map g.C.Coder.coder c.args.coders.items) (map g.K.Clock.told c.args.clocks.items)))

pub returns-in-Some-Probe-default-default-clause-decided : goal.returns-in-Some-Probe-default-default-clause-decided
returns-in-Some-Probe-default-default-clause-decided g c =
    let h = c.in-Some-Probe-default-default.field-0-0-is in
    let q : c.in-Some-Probe-default-default.field-0-0 ≡ Verb.Probe = cc in
    subst (λ (x : Option Command). Decides (reading x (g.F.Files.content c.args.files.now) (g.F.Files.faults c.args.files.now) (g.F.Files.faults c.probe_named.new.files) (g.F.Files.bytes_read c.args.files.now) (g.F.Files.bytes_read c.probe_named.new.files) (g.F.Files.failed_names c.args.files.now) (g.F.Files.failed_names c.probe_named.new.files)) (supply_of (map g.C.Coder.coder c.args.coders.items) (map g.K.Clock.told c.args.clocks.items)) (writing (g.S.Sink.told c.args.sink.now) (g.S.Sink.told c.probe_named.new.sink) (g.S.Sink.faults c.args.sink.now) (g.S.Sink.faults c.probe_named.new.sink) c.probe_named.result)) (probe_told (command_of (words_of c.args.words.now)) c.in-Some-Probe-default-default.field-0-0 c.in-Some-Probe-default-default.name.now c.in-Some-Probe-default-default.field-0-2.now q c.in-Some-Probe-default-default.ensures.named c.in-Some-Probe-default-default.ensures.told) (c.probe_named.ensures.decided (supply_of (map g.C.Coder.coder c.args.coders.items) (map g.K.Clock.told c.args.clocks.items)))

pub returns-in-Some-Check-default-default-clause-decided : goal.returns-in-Some-Check-default-default-clause-decided
returns-in-Some-Check-default-default-clause-decided g c =
    let h = c.in-Some-Check-default-default.field-0-0-is in
    let q : c.in-Some-Check-default-default.field-0-0 ≡ Verb.Check = cc in
    subst (λ (x : Option Command). Decides (reading x (g.F.Files.content c.args.files.now) (g.F.Files.faults c.args.files.now) (g.F.Files.faults c.check_named.new.files) (g.F.Files.bytes_read c.args.files.now) (g.F.Files.bytes_read c.check_named.new.files) (g.F.Files.failed_names c.args.files.now) (g.F.Files.failed_names c.check_named.new.files)) (supply_of (map g.C.Coder.coder c.args.coders.items) (map g.K.Clock.told c.args.clocks.items)) (writing (g.S.Sink.told c.args.sink.now) (g.S.Sink.told c.check_named.new.sink) (g.S.Sink.faults c.args.sink.now) (g.S.Sink.faults c.check_named.new.sink) c.check_named.result)) (check_told (command_of (words_of c.args.words.now)) c.in-Some-Check-default-default.field-0-0 c.in-Some-Check-default-default.name.now c.in-Some-Check-default-default.report.now q c.in-Some-Check-default-default.ensures.told) (c.check_named.ensures.decided (map g.K.Clock.told c.args.clocks.items))

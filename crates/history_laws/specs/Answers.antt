-- What is known of the answers that items have.
use Rattle.std.proofs.Common.{◌≡◌, true, List, [], ◌∷◌, ◌++◌, Option, Some, None, is_some, refl, ap, subst, ◌∙◌}
use Rattle.std.specs.List.{AllByRecursion}
use Rattle.wc_base.specs.Options.{cond_is, some_same}
use Rattle.wc_config.specs.declared.codec.CoderId.{CoderId}
use Rattle.wc_config.specs.declared.config.Config.{Config}
use Rattle.wc_config.specs.Configs.{coder_id_of}
use Rattle.codec_definitions.specs.declared.command.Command.{Command}
use Rattle.codec_definitions.specs.Answers.{answer_after, until_refused, answers_from, last_answer}
use Rattle.codec_definitions.specs.declared.unit.Unit as media
use Rattle.codec_model.specs.declared.entry.WorkKind.{WorkKind}
use Rattle.codec_model.specs.declared.entry.Ended.TheVariants as ended
use Rattle.codec_model.specs.declared.entry.Outcome.{Outcome}
use Rattle.codec_model.specs.declared.entry.Outcome.TheVariants as outcome
use Rattle.codec_model.specs.Replay.{Given, answer_to, answers_by, decoder_config, labelled, labelled_answer, ended_of, ended_run, ended_refused}
use Rattle.codec_model.specs.StepLaws.{no_slot_end, by_answer}

-- an item that ran gave the units of its answer
pub ran_answer : (k : WorkKind) (g : Given) (x : Outcome) (us : List media.Unit) → ended_of k g x ≡ Some (ended.Ran us) → answer_to k g ≡ Some us
ran_answer k g (outcome.Ran units) us h = by (answer_to k g) h
  where
    by : (a : Option (List media.Unit)) → ended_run units a ≡ Some (ended.Ran us) → a ≡ Some us
    by None e = absurd cc
    by (Some vs) e = let one : Some (ended.Ran vs) ≡ Some (ended.Ran us) = (cond_is _ (Some (ended.Ran vs)) (ended.Ran us) e).1 in cc
ran_answer k g outcome.Refused us h = by (answer_to k g) h
  where
    by : (a : Option (List media.Unit)) → ended_refused a ≡ Some (ended.Ran us) → a ≡ Some us
    by None e = absurd cc
    by (Some vs) e = absurd cc
ran_answer k g (outcome.NoSlot n) us h = absurd (let e = no_slot_end k g n (ended.Ran us) h in cc)
ran_answer k g outcome.NoMemory us h = absurd cc

-- what holds of each answer to commands of a kind holds of the last
pub last_where : (Q : Command → Type 0) (P : List media.Unit → Type 0) (id : CoderId) (c : Config)
    → ((before : List Command) (x : Command) (us : List media.Unit) → Q x → answer_after id c before x ≡ Some us → P us)
    → (before xs : List Command) (us : List media.Unit) → AllByRecursion Q xs → last_answer (answers_from id c before xs) ≡ Some us → P us
last_where Q P id c each before [] us all h = absurd cc
last_where Q P id c each before (x ∷ xs) us all h = here (answer_after id c before x) refl (last_where Q P id c each (before ++ x ∷ []) xs us all.1) h
  where
    later : (vs : List media.Unit) (rest : List (Option (List media.Unit))) → answer_after id c before x ≡ Some vs → (last_answer rest ≡ Some us → P us) → last_answer (Some vs ∷ rest) ≡ Some us → P us
    later vs [] e more l = each before x us all.0 (e ∙ l)
    later vs (y ∷ ys) e more l = more l

    here : (o : Option (List media.Unit)) → answer_after id c before x ≡ o → (last_answer (answers_from id c (before ++ x ∷ []) xs) ≡ Some us → P us) → last_answer (until_refused o (answers_from id c (before ++ x ∷ []) xs)) ≡ Some us → P us
    here None e more l = absurd cc
    here (Some vs) e more l = later vs (answers_from id c (before ++ x ∷ []) xs) e more l

-- the same of an item's answer, whose first unit may carry a decoder's config
pub answer_where : (Q : Command → Type 0) (P : List media.Unit → Type 0) (w : WorkKind) (g : Given) (us : List media.Unit) → P []
    → ((id : CoderId) (before : List Command) (x : Command) (vs : List media.Unit) → Q x → answer_after id g.config before x ≡ Some vs → P vs)
    → ((vs : List media.Unit) → is_some (coder_id_of g.config) ≡ true → P vs → P (labelled (decoder_config g.config) vs))
    → AllByRecursion Q g.commands → answer_to w g ≡ Some us → P us
answer_where Q P w g us none each label all h = by_answer P w g us none (by_coder (coder_id_of g.config) refl) h
  where
    carrying : (id : CoderId) (a : Option (List media.Unit)) → coder_id_of g.config ≡ Some id → last_answer (answers_by (Some id) g) ≡ a → labelled_answer (decoder_config g.config) a ≡ Some us → P us
    carrying id None is last e = absurd cc
    carrying id (Some vs) is last e =
        subst P (some_same (labelled (decoder_config g.config) vs) us e)
        (label vs (ap (λ (o : Option CoderId). is_some o) is) (last_where Q P id g.config (each id) [] g.commands vs all last))

    by_coder : (o : Option CoderId) → coder_id_of g.config ≡ o → labelled_answer (decoder_config g.config) (last_answer (answers_by o g)) ≡ Some us → P us
    by_coder None is e = absurd cc
    by_coder (Some id) is e = carrying id (last_answer (answers_by (Some id) g)) is refl e

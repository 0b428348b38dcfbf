-- Small texts of injections and what they are read as.
use Rattle.std.specs.Prelude.{Some, codes, replicate}
use Rattle.std.proofs.Common.{◌≡◌, ℕ, List, [], ◌∷◌, refl}
use Rattle.kern_base.specs.declared.kinds.Kind.{Kind}
use Rattle.kern_base.specs.declared.kinds.Kind.TheVariants.{Sem, Mutex, OneShot}
use Rattle.text_lex.specs.Tokens.{Lexed, Tokens, BadByteAt, TooLargeAt, lexed}
use Rattle.app_image.specs.Image.{ImageRecord}
use Rattle.app_image.specs.declared.records.ObjDef.{ObjDef}
use Rattle.app_image.specs.declared.records.VectorDef.{VectorDef}
use Rattle.inject_list.specs.Lists.{ListRecord, no_injections}
use Rattle.inject_list.specs.Entries.{Interrupt, Looks, AtPriority}
use Rattle.inject_list.specs.Reading.{Reading, Gives, Refuses, injections_in, cause_of}
use Rattle.inject_list.specs.declared.causes.InjectCause.TheVariants.{WrongForm, NoVector, TooManyWords, TooMany, NoList, LateMoment}
use Rattle.inject_list.specs.declared.lists.Moment.TheVariants.{Task, Step}
use Rattle.inject_list.specs.declared.lists.Seen.TheVariants.{Obj, Ready}

abbrev object : List ℕ → Kind → ObjDef
object name kind = record { name = name; kind = kind; f = 1 ∷ 0 ∷ 0 ∷ 0 ∷ []; line = 0 }

abbrev vector : ℕ → VectorDef
vector number = record { number = number; level = 2; entry = 0; sp = 0x140000; line = 0 }

-- the vectors 3 and 0, a timer, a mutex and a semaphore, and a task
abbrev image : ImageRecord
image = record {
  tasks = record { name = codes "a"; entry = 0; prio = 10; quanta = 0; qsize = 0; sp = 0x140000; line = 0 } ∷ [];
  objects = object (codes "k") OneShot ∷ object (codes "m") Mutex ∷ object (codes "s") Sem ∷ [];
  vectors = vector 3 ∷ vector 0 ∷ [];
  code = 0x73 ∷ [];
  ram = [];
  config = record { isr_limit = 256; defer_size = 16; pool = 64; tmr_div = 10; round_robin = 1; quanta = 10; tick_prio = 1; tmr_prio = 62; tmr_sp = 0x140000; insert = 0 };
}

-- what a text is read as whose tokens are these
abbrev read_as : List ℕ → Lexed → Reading
read_as text (Tokens tokens) = injections_in text tokens image
read_as text (BadByteAt place line) = Gives no_injections
read_as text (TooLargeAt place line) = Gives no_injections

abbrev text_read : List ℕ → Reading
text_read text = read_as text (lexed text)

-- each form, empty lines, a last line without a line feed, and a word that is negative
every_form : text_read (codes "task 6, 3\n\n # none\nstep -0,0,-1, 0x10,4294967295, 7\nlook 28, s\nlook 0, 63\ntask 1000000, 3, 9") ≡
    Gives (record {
      injections =
          record { moment = Task 6; vector = 3; words = 0 ∷ 0 ∷ 0 ∷ 0 ∷ []; count = 0 }
          ∷ record { moment = Step 0; vector = 0; words = 4294967295 ∷ 16 ∷ 4294967295 ∷ 7 ∷ []; count = 4 }
          ∷ record { moment = Task 1000000; vector = 3; words = 9 ∷ 0 ∷ 0 ∷ 0 ∷ []; count = 1 } ∷ [];
      looks =
          record { at = 28; what = Obj (record { 0 = 2 }) }
          ∷ record { at = 0; what = Ready (record { 0 = 63 }) } ∷ [];
    })
unfolding lexed
every_form = refl

nothing : text_read [] ≡ Gives no_injections
unfolding lexed
nothing = refl

cut_short : text_read (codes "\ntask 6") ≡ Refuses 2 WrongForm
unfolding lexed
cut_short = refl

a_comma_at_the_end : text_read (codes "task 6, 3, 1,\n") ≡ Refuses 1 WrongForm
unfolding lexed
a_comma_at_the_end = refl

a_negative_priority : text_read (codes "look 1, -1\n") ≡ Refuses 1 WrongForm
unfolding lexed
a_negative_priority = refl

a_word_of_another_kind : text_read (codes "wait 1, 3\n") ≡ Refuses 1 WrongForm
unfolding lexed
a_word_of_another_kind = refl

an_unknown_vector : text_read (codes "task 6, 3\ntask 2000000, 4, 1, 2, 3, 4, 5\n") ≡ Refuses 2 NoVector
unfolding lexed
an_unknown_vector = refl

five_words : text_read (codes "task 2000000, 3, 1, 2, 3, 4, 5\ntask 6\n") ≡ Refuses 1 TooManyWords
unfolding lexed
five_words = refl

a_look_at_a_timer : text_read (codes "look 1, m\nlook 1, k\n") ≡ Refuses 2 NoList
unfolding lexed
a_look_at_a_timer = refl

a_look_at_a_task : text_read (codes "look 1, a\n") ≡ Refuses 1 NoList
unfolding lexed
a_look_at_a_task = refl

a_high_number : text_read (codes "look 1, 64\n") ≡ Refuses 1 NoList
unfolding lexed
a_high_number = refl

a_late_moment : text_read (codes "step 1000001, 3\ntask 1000001, 3\n") ≡ Refuses 2 LateMoment
unfolding lexed
a_late_moment = refl

-- the 16,385th entry
abbrev full : ListRecord
full = record { injections = replicate 16384 (record { moment = Step 1; vector = 3; words = 0 ∷ 0 ∷ 0 ∷ 0 ∷ []; count = 0 }); looks = [] }

one_too_many : cause_of image full (Some (Looks 1 (AtPriority 64))) ≡ Some TooMany
one_too_many = refl

a_bad_vector_first : cause_of image full (Some (Interrupt (Step 1) 4 [])) ≡ Some NoVector
a_bad_vector_first = refl

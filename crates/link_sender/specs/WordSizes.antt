-- A sender in words of any size, as what every sender is seen as.
use Rattle.link_sender.specs.Senders.{SenderView}
use Rattle.link_sender.specs.declared.word_sizes.Sized.{Sized}
use Rattle.link_sender.specs.declared.word_sizes.Sized.TheVariants.{One, Two, Four, Five, Eight, Ten, Sixteen}

abbrev pub sender_in : Sized → SenderView
sender_in (One s) = s
sender_in (Two s) = s
sender_in (Four s) = s
sender_in (Five s) = s
sender_in (Eight s) = s
sender_in (Ten s) = s
sender_in (Sixteen s) = s

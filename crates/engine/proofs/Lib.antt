mod StoreTickets
mod SerialSteps
